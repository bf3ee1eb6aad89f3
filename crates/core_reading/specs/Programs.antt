-- A program: the cores of its modules, and the function that a device starts. What a name in it stands for.
use Rattle.std.specs.Prelude.{ℕ, Bool, not, ◌&&◌, cond, bytes_eq, List, [], ◌∷◌, map, Option, Some, None, is_some}
use Rattle.slang_names.specs.declared.names.Ref.{Ref}
use Rattle.slang_names.specs.declared.places.Mode.{Mode}
use Rattle.slang_names.specs.declared.places.Mode.TheVariants as mode
use Rattle.slang_core.specs.declared.declarations.CoreModule.{CoreModule}
use Rattle.slang_core.specs.declared.declarations.Decl.{Decl}
use Rattle.slang_core.specs.declared.declarations.Decl.TheVariants as decl
use Rattle.slang_core.specs.declared.declarations.FunctionDecl.{FunctionDecl}
use Rattle.slang_core.specs.declared.declarations.StructDecl.{StructDecl}
use Rattle.slang_core.specs.declared.declarations.GlobalDecl.{GlobalDecl}
use Rattle.slang_core.specs.declared.declarations.Par.{Par}
use Rattle.slang_core.specs.declared.bodies.Body.{Body}
use Rattle.spirv_words.specs.Machine.{if_some}

pub record CoreProgram : Type 0 where
  pub modules : List CoreModule
  pub entry : Ref

-- the module of a name
abbrev pub module_named : List CoreModule → List ℕ → Option CoreModule
module_named [] name = None
module_named (m ∷ ms) name = cond (bytes_eq m.own.name name) (Some m) (module_named ms name)

-- a function with its body
pub record Defined : Type 0 where
  pub head : FunctionDecl
  pub body : Body

-- the bodies of a module stand in the order of its functions
abbrev pub function_in : List Decl → List Body → List ℕ → Option Defined
function_in [] bodies path = None
function_in (decl.Function d ∷ ds) [] path = None
function_in (decl.Function d ∷ ds) (b ∷ bodies) path = cond (bytes_eq d.path path) (Some (record { head = d; body = b })) (function_in ds bodies path)
function_in (other ∷ ds) bodies path = function_in ds bodies path

abbrev pub struct_in : List Decl → List ℕ → Option StructDecl
struct_in [] path = None
struct_in (decl.Struct d ∷ ds) path = cond (bytes_eq d.path path) (Some d) (struct_in ds path)
struct_in (other ∷ ds) path = struct_in ds path

abbrev pub global_in : List Decl → List ℕ → Option GlobalDecl
global_in [] path = None
global_in (decl.Global d ∷ ds) path = cond (bytes_eq d.path path) (Some d) (global_in ds path)
global_in (other ∷ ds) path = global_in ds path

abbrev pub function_of : CoreProgram → Ref → Option Defined
function_of p r = if_some (module_named p.modules r.module) None (λ m. function_in m.own.decls m.bodies r.path)

abbrev pub struct_of : CoreProgram → Ref → Option StructDecl
struct_of p r = if_some (module_named p.modules r.module) None (λ m. struct_in m.own.decls r.path)

abbrev pub global_of : CoreProgram → Ref → Option GlobalDecl
global_of p r = if_some (module_named p.modules r.module) None (λ m. global_in m.own.decls r.path)

-- a method that is not static has a receiver
abbrev pub has_receiver : FunctionDecl → Bool
has_receiver d = is_some d.owner && not d.flags.is_static

-- the receiver of a mutating method is copied in and back, of another only in
abbrev pub receiver_mode : FunctionDecl → Mode
receiver_mode d = cond d.flags.is_mutating mode.InOut mode.In

abbrev pub mode_of : Par → Mode
mode_of x = x.mode

-- how the parameters are passed, the receiver before all others
abbrev pub modes_of : FunctionDecl → List Mode
modes_of d = cond (has_receiver d) (receiver_mode d ∷ map mode_of d.parameters) (map mode_of d.parameters)
