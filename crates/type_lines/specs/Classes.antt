-- The classes of what is judged, and what each comes to.
use Rattle.std.specs.Prelude.{ℕ, List, Option}
use Rattle.slang_core.specs.declared.types.TypeTerm.{TypeTerm}
use Rattle.slang_core.specs.declared.bodies.Expr.{Expr}
use Rattle.slang_core.specs.declared.bodies.Stat.{Stat}
use Rattle.slang_core.specs.declared.bodies.Body.{Body}
use Rattle.slang_core.specs.declared.declarations.CoreModule.{CoreModule}
use Rattle.slang_core.specs.declared.declarations.Par.{Par}
use Rattle.slang_names.specs.declared.places.Place.{Place}
use Rattle.type_terms.specs.declared.typings.Typing.{Typing}
use Rattle.module_scope.specs.declared.heads.Head.{Head}
use Rattle.module_scope.specs.declared.frames.Frame.{Frame}
use Rattle.plans.specs.Plans.{Plan}
use Rattle.type_lines.specs.declared.answers.Denoted.{Denoted}
use Rattle.type_lines.specs.declared.answers.LocalGiven.{LocalGiven}

-- types; declared names of one type; expressions, and those of which a value is wanted; lists of these; items of lists in
-- braces; conditions; optional values; locals; statements; bodies; heads; phases; modules
pub data Class : Type 0 where
  types : Class
  named_types : Class
  parameters : Class
  denotes : Class
  values : Class
  lists : Class
  items : Class
  tests : Class
  locals : Class
  changes : Class
  runs : Class
  heads : Class
  some_heads : Class
  bodies : Class
  some_bodies : Class
  checks : Class
  modules : Class

abbrev pub Answer : Class → Type 0
Answer types = TypeTerm
Answer named_types = Option (List TypeTerm)
Answer parameters = Option (List Par)
Answer denotes = Denoted
Answer values = Typing
Answer lists = Option (List Typing)
Answer items = List (Option Typing)
Answer tests = Expr
Answer locals = List LocalGiven × Frame
Answer changes = Stat
Answer runs = List Stat × Frame
Answer heads = Head
Answer some_heads = List (Option Head)
Answer bodies = Body
Answer some_bodies = List Body
Answer checks = Unit {0}
Answer modules = CoreModule

-- a plan for something of that class
abbrev pub Does : Class → Type 0
Does c = Plan Answer c
