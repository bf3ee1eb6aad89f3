-- What a program says: its functions in the kernel, and what it does.
use Rattle.std.specs.Prelude.{ℕ, not, cond, List, [], ◌∷◌, ◌++◌, length, map, Option, Some, None}
use Rattle.slang_names.specs.declared.names.Ref.{Ref}
use Rattle.slang_core.specs.declared.declarations.FunctionDecl.{FunctionDecl}
use Rattle.slang_core.specs.declared.declarations.Par.{Par}
use Rattle.slang_core.specs.declared.declarations.BuiltIn.{BuiltIn}
use Rattle.slang_core.specs.declared.declarations.BuiltIn.TheVariants.{GroupId, GroupThreadId, DispatchThreadId, GroupIndex}
use Rattle.slang_core.specs.declared.bodies.Body.{Body}
use Rattle.behavior.specs.Values.{Value, Word, triple}
use Rattle.behavior.specs.Meanings.{Ids, Meaning}
use Rattle.spirv_words.specs.Machine.{if_some}
use Rattle.shader_kernel.specs.Kernel.{Parameter, Function}
use Rattle.shader_kernel.specs.Meaning.{Bound, Program, means}
use Rattle.core_reading.specs.Ground.{Ground, StructOf, NoType, Arguments, NoArgument, first_of, is_void}
use Rattle.core_reading.specs.Programs.{CoreProgram, Defined, function_of, struct_of, has_receiver, receiver_mode}
use Rattle.core_reading.specs.Types.{ground_type, zero_of}
use Rattle.core_reading.specs.Frames.{Callee, BufferName, Frame}
use Rattle.core_reading.specs.Bodies.{read_stats}

-- where the data of a program's globals lie: its buffers, and the number of each among them
pub record Bindings : Type 0 where
  pub buffers : List Bound
  pub number : BufferName → ℕ

-- ---- functions

-- the struct of a receiver has the first of a method's arguments
abbrev pub receiver_type : CoreProgram → Arguments → Option Ref → Ground
receiver_type p given None = NoType
receiver_type p given (Some r) = StructOf r (if_some (struct_of p r) NoArgument (λ s. first_of (length s.params.list) given))

abbrev pub parameter_of : Arguments → Par → Parameter Ground
parameter_of given x = record { mode = x.mode; of = ground_type given x.of }

-- the receiver, if there is one, and the parameters
abbrev pub parameters_of : CoreProgram → Arguments → FunctionDecl → List (Parameter Ground)
parameters_of p given d =
    let own = map (parameter_of given) d.parameters in
    cond (has_receiver d) (record { mode = receiver_mode d; of = receiver_type p given d.owner } ∷ own) own

abbrev pub type_of_parameter : Parameter Ground → Ground
type_of_parameter x = x.of

abbrev pub locals_of : Arguments → Body → List Ground
locals_of given b = map (ground_type given) b.locals

abbrev pub frame_of : CoreProgram → Bindings → Arguments → Defined → Frame
frame_of p bindings given d = record {
  program = p;
  buffer = bindings.number;
  arguments = given;
  has_this = has_receiver d.head;
  locals = map type_of_parameter (parameters_of p given d.head) ++ locals_of given d.body;
}

-- a function where its parameters stand for these arguments
abbrev pub read_function : CoreProgram → Bindings → Arguments → Defined → Function Callee Ground
read_function p bindings given d = record {
  parameters = parameters_of p given d.head;
  gives = not (is_void (ground_type given d.head.result));
  locals = locals_of given d.body;
  body = read_stats (frame_of p bindings given d) d.body.statements;
}

abbrev pub function_at : CoreProgram → Bindings → Callee → Option (Function Callee Ground)
function_at p bindings None = None
function_at p bindings (Some target) =
    if_some (function_of p target.function) None (λ d. Some (read_function p bindings target.arguments d))

-- ---- programs

abbrev pub input_of : BuiltIn → Ids → Value
input_of GroupId ids = triple ids.group
input_of GroupThreadId ids = triple ids.local
input_of DispatchThreadId ids = triple ids.global
input_of GroupIndex ids = Word ids.index

abbrev pub inputs_of : Option Defined → List (Ids → Value)
inputs_of None = []
inputs_of (Some d) = if_some d.head.entry [] (λ e. map input_of e.inputs)

abbrev pub read_program : CoreProgram → Bindings → Program Callee Ground
read_program p bindings = record {
  buffers = bindings.buffers;
  zero_of = zero_of p;
  function = function_at p bindings;
  entry = Some (record { function = p.entry; arguments = NoArgument });
  inputs = inputs_of (function_of p p.entry);
}

-- what a program does in an invocation
abbrev pub source : CoreProgram → Bindings → Meaning
source p bindings = means (read_program p bindings)
