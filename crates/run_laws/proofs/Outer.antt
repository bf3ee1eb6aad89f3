-- What values outside of functions stand for is near, wherever a run stands; and what else is known of a valid image.
use Rattle.std.proofs.Common.{◌≡◌, ℕ, ◌+◌, ◌*◌, ◌%◌, ◌≤◌, Bool, true, List, Option, Some, refl, sym, ap, subst, ◌∙◌, arith}
use Rattle.spirv_words.specs.declared.images.Instruction.{Instruction}
use Rattle.spirv_words.specs.Machine.{Shape, Local, Input, Operand, Plain, Path, InBuffer}
use Rattle.spirv_words.specs.Step.{Frame as Call}
use Rattle.image_operands.specs.Marks.{is_buffer}
use Rattle.image_scopes.specs.Scopes.{IsGlobal}
use Rattle.image_scopes.specs.Facts.{Begins}
use Rattle.image_facts.specs.Alike.{IsSpaced, reach}
use Rattle.image_facts.specs.Operands.{globals_of, is_built_in}
use Rattle.run_rooms.specs.Rooms.{Rooms}
use Rattle.run_plans.specs.Actions.{target_shape}
use Rattle.run_plans.specs.Plans.{set_of, binding_of, needs, needed_words}
use Rattle.run_laws.specs.Laid.{IsInside, LeadsNear}
use Rattle.run_laws.specs.Together.{HaveLengths}

-- a pointer to a whole buffer
pub record IsWhole (code : List Instruction) (set binding byte : ℕ) (s : Shape) : Type 0 where
  pub variable : ℕ
  pub buffer : is_buffer code variable ≡ true
  pub its_set : set ≡ set_of code variable
  pub its_binding : binding ≡ binding_of code variable
  pub form : target_shape code variable ≡ Some s
  pub first : byte ≡ 0
  pub spaced : IsSpaced s

-- what is outside of functions: values, built-in values and whole buffers
abbrev pub IsOuter : List Instruction → Operand → Type 0
IsOuter code (Plain v) = Unit {0}
IsOuter code (Path (Local level x) path) = ⊥
IsOuter code (Path (Input b) path) = is_built_in b ≡ true
IsOuter code (InBuffer set binding byte s) = IsWhole code set binding byte s

pub record More (code : List Instruction) : Type 0 where
  pub outer : (x : ℕ) (o : Operand) → IsGlobal code x → (globals_of code).ids x ≡ Some o → IsOuter code o
  pub begins : Begins code

whole_inside : (code : List Instruction) (L : Rooms) (lengths : ℕ → ℕ → ℕ) (counts : List ℕ) (set binding byte : ℕ) (s : Shape)
    → HaveLengths code L lengths counts → IsWhole code set binding byte s → IsInside byte s (lengths set binding)
whole_inside code L lengths counts set binding byte s have w =
    let first = w.first in
    let fewer = have.enough w.variable w.buffer in
    let need = ap needed_words w.form in
    let one = ap (λ n. lengths n binding) w.its_set in
    let two = ap (λ n. lengths (set_of code w.variable) n) w.its_binding in
    record {
      whole_words = ap (λ b. b % 4) first;
      spaced = w.spaced;
      first = λ e. first;
      ends = λ e. omega (arith, first, fewer, need, one, two);
    }

pub outer_near : (code : List Instruction) (L : Rooms) (lengths : ℕ → ℕ → ℕ) (counts : List ℕ) (place : ℕ) (below : List Call) (o : Operand)
    → HaveLengths code L lengths counts → IsOuter code o → LeadsNear code lengths place below o
outer_near code L lengths counts place below (Plain v) have w = tt
outer_near code L lengths counts place below (Path (Local level x) path) have w = absurd w
outer_near code L lengths counts place below (Path (Input b) path) have w = w
outer_near code L lengths counts place below (InBuffer set binding byte s) have w = whole_inside code L lengths counts set binding byte s have w
