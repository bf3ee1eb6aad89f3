-- What declarations spell, as trees.
use Rattle.std.specs.Prelude.{ℕ, List, Bool, if◌then◌else◌, ◌+◌}
use Rattle.slang_names.specs.declared.places.Access.{Access}
use Rattle.slang_names.specs.declared.places.Access.TheVariants.{Public, Internal, Private}
use Rattle.slang_names.specs.declared.places.Mode.{Mode}
use Rattle.slang_names.specs.declared.places.Mode.TheVariants.{In, Out, InOut}
use Rattle.slang_core.specs.declared.types.TypeTerm.{TypeTerm}
use Rattle.slang_core.specs.declared.declarations.AliasDecl.{AliasDecl}
use Rattle.slang_core.specs.declared.declarations.Assoc.{Assoc}
use Rattle.slang_core.specs.declared.declarations.Bind.{Bind}
use Rattle.slang_core.specs.declared.declarations.Binding.{Binding}
use Rattle.slang_core.specs.declared.declarations.BuiltIn.{BuiltIn}
use Rattle.slang_core.specs.declared.declarations.Conf.{Conf}
use Rattle.slang_core.specs.declared.declarations.ConstantDecl.{ConstantDecl}
use Rattle.slang_core.specs.declared.declarations.Constraint.{Constraint}
use Rattle.slang_core.specs.declared.declarations.Decl.{Decl}
use Rattle.slang_core.specs.declared.declarations.Entry.{Entry}
use Rattle.slang_core.specs.declared.declarations.ExtensionDecl.{ExtensionDecl}
use Rattle.slang_core.specs.declared.declarations.Field.{Field}
use Rattle.slang_core.specs.declared.declarations.Flags.{Flags}
use Rattle.slang_core.specs.declared.declarations.FunctionDecl.{FunctionDecl}
use Rattle.slang_core.specs.declared.declarations.GenericParam.{GenericParam}
use Rattle.slang_core.specs.declared.declarations.GlobalDecl.{GlobalDecl}
use Rattle.slang_core.specs.declared.declarations.Interface.{Interface}
use Rattle.slang_core.specs.declared.declarations.InterfaceDecl.{InterfaceDecl}
use Rattle.slang_core.specs.declared.declarations.Par.{Par}
use Rattle.slang_core.specs.declared.declarations.Params.{Params}
use Rattle.slang_core.specs.declared.declarations.Req.{Req}
use Rattle.slang_core.specs.declared.declarations.StructDecl.{StructDecl}
use Rattle.slang_core.specs.declared.declarations.BuiltIn.TheVariants.{GroupId, GroupThreadId, DispatchThreadId, GroupIndex}
use Rattle.slang_core.specs.declared.declarations.GenericParam.TheVariants.{Term, Fixed}
use Rattle.slang_core.specs.declared.declarations.Decl.TheVariants as decl
use Rattle.slang_core.specs.TypeTrees.{option_of, ref_tree, scalar_tree, type_tree}
use Rattle.slang_core.specs.EvidenceTrees.{evidence_part}
use Rattle.form_grammar.specs.Trees.{Tree, byte, number, text, ◌▸◌, tagged, nested, list_of}

abbrev pub access_tree : Access → Tree
access_tree Public = byte 0
access_tree Internal = byte 1
access_tree Private = byte 2

abbrev pub mode_tree : Mode → Tree
mode_tree In = byte 0
mode_tree Out = byte 1
mode_tree InOut = byte 2

abbrev pub flags_tree : Flags → Tree
flags_tree f = byte ((if f.is_static then 1 else 0) + (if f.is_mutating then 2 else 0))

abbrev pub built_in_tree : BuiltIn → Tree
built_in_tree GroupId = byte 0
built_in_tree GroupThreadId = byte 1
built_in_tree DispatchThreadId = byte 2
built_in_tree GroupIndex = byte 3

-- a type where it stands in another production
abbrev pub term_tree : TypeTerm → Tree
term_tree t = nested (type_tree t)

abbrev pub generic_param_tree : GenericParam → Tree
generic_param_tree (Term name) = tagged 0 (text name)
generic_param_tree (Fixed name) = tagged 1 (text name)

abbrev pub constraint_tree : Constraint → Tree
constraint_tree c = number c.parameter ▸ ref_tree c.interface

abbrev pub params_tree : Params → Tree
params_tree p = list_of generic_param_tree p.list ▸ list_of constraint_tree p.constraints

abbrev pub field_tree : Field → Tree
field_tree f = text f.name ▸ access_tree f.access ▸ term_tree f.of

abbrev pub bind_tree : Bind → Tree
bind_tree b = text b.name ▸ access_tree b.access ▸ term_tree b.of

abbrev pub conf_tree : Conf → Tree
conf_tree c = ref_tree c.interface ▸ list_of term_tree c.associated ▸ list_of evidence_part c.bounds ▸ list_of ref_tree c.members

abbrev pub par_tree : Par → Tree
par_tree p = mode_tree p.mode ▸ term_tree p.of

abbrev pub assoc_tree : Assoc → Tree
assoc_tree a = text a.name ▸ option_of ref_tree a.bound

abbrev pub req_tree : Req → Tree
req_tree r = text r.name ▸ flags_tree r.flags ▸ list_of par_tree r.parameters ▸ term_tree r.result

abbrev pub entry_tree : Entry → Tree
entry_tree e = number e.x ▸ number e.y ▸ number e.z ▸ list_of built_in_tree e.inputs

abbrev pub binding_tree : Binding → Tree
binding_tree b = number b.number ▸ number b.set

abbrev pub struct_tree : StructDecl → Tree
struct_tree d = text d.path ▸ access_tree d.access ▸ params_tree d.params ▸ list_of field_tree d.fields ▸ list_of conf_tree d.conformances ▸ list_of bind_tree d.bindings

abbrev pub interface_decl_tree : InterfaceDecl → Tree
interface_decl_tree d = text d.path ▸ access_tree d.access ▸ list_of assoc_tree d.associated ▸ list_of req_tree d.requirements

abbrev pub extension_tree : ExtensionDecl → Tree
extension_tree d = ref_tree d.subject ▸ params_tree d.params ▸ list_of conf_tree d.conformances ▸ list_of bind_tree d.bindings

abbrev pub function_tree : FunctionDecl → Tree
function_tree d =
    text d.path ▸ access_tree d.access ▸ option_of ref_tree d.owner ▸ flags_tree d.flags ▸ params_tree d.params
    ▸ list_of par_tree d.parameters ▸ term_tree d.result ▸ option_of entry_tree d.entry

abbrev pub alias_tree : AliasDecl → Tree
alias_tree d = text d.path ▸ access_tree d.access ▸ term_tree d.of

abbrev pub constant_tree : ConstantDecl → Tree
constant_tree d = text d.path ▸ access_tree d.access ▸ scalar_tree d.scalar ▸ number d.bits

abbrev pub global_tree : GlobalDecl → Tree
global_tree d = text d.path ▸ access_tree d.access ▸ term_tree d.of ▸ option_of binding_tree d.binding

abbrev pub decl_tree : Decl → Tree
decl_tree (decl.Struct d) = tagged 1 (struct_tree d)
decl_tree (decl.Interface d) = tagged 2 (interface_decl_tree d)
decl_tree (decl.Extension d) = tagged 3 (extension_tree d)
decl_tree (decl.Function d) = tagged 4 (function_tree d)
decl_tree (decl.Alias d) = tagged 5 (alias_tree d)
decl_tree (decl.Constant d) = tagged 6 (constant_tree d)
decl_tree (decl.Global d) = tagged 7 (global_tree d)

-- what an interface spells
abbrev pub interface_tree : Interface → Tree
interface_tree i = text i.name ▸ list_of (λ n. text n) i.imports ▸ list_of decl_tree i.decls
