-- Which shaders are of the first form.
use Rattle.std.specs.Prelude.{Bool, ◌&&◌, ◌≢◌, ◌≤◌, ◌<◌, ◌*◌, ◌^◌, nat_le, length, IsTrue}
use Rattle.std.specs.List.{AllByRecursion}
use Rattle.first_form.specs.declared.shader.Shader.{Shader}
use Rattle.first_form.specs.declared.shader.GroupSize.{GroupSize}
use Rattle.first_form.specs.declared.shader.Statement.{Statement}
use Rattle.first_form.specs.declared.shader.Sum.{Sum}
use Rattle.first_form.specs.declared.shader.Item.{Item}
use Rattle.first_form.specs.declared.shader.Item.TheVariants.{Number, X}
use Rattle.first_form.specs.Words.{is_free_name}

-- one to 1024 invocations along x and y, one to 64 along z, and at most 1024 in all
pub record IsGroup (g : GroupSize) : Type 0 where
  pub some_x : 1 ≤ g.x
  pub most_x : g.x ≤ 1024
  pub some_y : 1 ≤ g.y
  pub most_y : g.y ≤ 1024
  pub some_z : 1 ≤ g.z
  pub most_z : g.z ≤ 64
  pub most : g.x * g.y * g.z ≤ 1024

-- the same, as a test
abbrev pub is_group : GroupSize → Bool
is_group g =
    nat_le 1 g.x && nat_le g.x 1024 && nat_le 1 g.y && nat_le g.y 1024 && nat_le 1 g.z && nat_le g.z 64
    && nat_le (g.x * g.y * g.z) 1024

abbrev pub IsItem : Item → Type 0
IsItem (Number n) = n < 2 ^ 32
IsItem X = Unit {0}

-- at most 32 items
pub record IsSum (sum : Sum) : Type 0 where
  pub first : IsItem sum.first
  pub rest : AllByRecursion IsItem sum.rest
  pub most : length sum.rest ≤ 31

pub record IsStatement (statement : Statement) : Type 0 where
  pub index : IsSum statement.index
  pub value : IsSum statement.value

pub record IsShader (shader : Shader) : Type 0 where
  pub buffer : IsTrue (is_free_name shader.buffer)
  pub entry : IsTrue (is_free_name shader.entry)
  pub parameter : IsTrue (is_free_name shader.parameter)
  pub buffer_is_not_entry : shader.buffer ≢ shader.entry
  pub buffer_is_not_parameter : shader.buffer ≢ shader.parameter
  pub entry_is_not_parameter : shader.entry ≢ shader.parameter
  pub group : IsGroup shader.group
  pub statements : AllByRecursion IsStatement shader.statements
