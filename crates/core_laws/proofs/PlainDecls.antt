-- Declarations are of the form exactly where they are plain.
use Rattle.std.proofs.Common.{Bool, true, false, refl, arith}
use Rattle.slang_names.specs.declared.places.Access.{Access}
use Rattle.slang_names.specs.declared.places.Access.TheVariants.{Public, Internal, Private}
use Rattle.slang_names.specs.declared.places.Mode.{Mode}
use Rattle.slang_names.specs.declared.places.Mode.TheVariants.{In, Out, InOut}
use Rattle.slang_core.specs.declared.declarations.Assoc.{Assoc}
use Rattle.slang_core.specs.declared.declarations.Bind.{Bind}
use Rattle.slang_core.specs.declared.declarations.Binding.{Binding}
use Rattle.slang_core.specs.declared.declarations.BuiltIn.{BuiltIn}
use Rattle.slang_core.specs.declared.declarations.Conf.{Conf}
use Rattle.slang_core.specs.declared.declarations.Constraint.{Constraint}
use Rattle.slang_core.specs.declared.declarations.Decl.{Decl}
use Rattle.slang_core.specs.declared.declarations.Entry.{Entry}
use Rattle.slang_core.specs.declared.declarations.Field.{Field}
use Rattle.slang_core.specs.declared.declarations.Flags.{Flags}
use Rattle.slang_core.specs.declared.declarations.GenericParam.{GenericParam}
use Rattle.slang_core.specs.declared.declarations.Interface.{Interface}
use Rattle.slang_core.specs.declared.declarations.Par.{Par}
use Rattle.slang_core.specs.declared.declarations.Params.{Params}
use Rattle.slang_core.specs.declared.declarations.Req.{Req}
use Rattle.slang_core.specs.declared.declarations.BuiltIn.TheVariants.{GroupId, GroupThreadId, DispatchThreadId, GroupIndex}
use Rattle.slang_core.specs.declared.declarations.GenericParam.TheVariants.{Term, Fixed}
use Rattle.slang_core.specs.declared.declarations.Decl.TheVariants as decl
use Rattle.slang_core.specs.TypeTrees.{ref_tree}
use Rattle.slang_core.specs.EvidenceTrees.{evidence_part}
use Rattle.slang_core.specs.DeclarationTrees.{access_tree, mode_tree, flags_tree, built_in_tree, term_tree, generic_param_tree, constraint_tree, params_tree, field_tree, bind_tree, conf_tree, par_tree, assoc_tree, req_tree, entry_tree, binding_tree, decl_tree, interface_tree}
use Rattle.form_grammar.specs.Trees.{text}
use Rattle.form_grammar.specs.Grammar as form
use Rattle.form_grammar.specs.Grammar.{Class, ◌▹◌}
use Rattle.core_laws.proofs.Agrees.{Agrees, num_is, name_is, byte_is, pair_is, tag_is, list_is, option_is, ref_is, scalar_is}
use Rattle.core_laws.proofs.PlainTypes.{term_is, evidence_part_is}

access_is : (a : Access) → Agrees (access_tree a) form.acc
access_is Public = byte_is 0 0 2 (omega arith) (omega arith) (omega arith)
access_is Internal = byte_is 1 0 2 (omega arith) (omega arith) (omega arith)
access_is Private = byte_is 2 0 2 (omega arith) (omega arith) (omega arith)

mode_is : (m : Mode) → Agrees (mode_tree m) (form.range 0 2)
mode_is In = byte_is 0 0 2 (omega arith) (omega arith) (omega arith)
mode_is Out = byte_is 1 0 2 (omega arith) (omega arith) (omega arith)
mode_is InOut = byte_is 2 0 2 (omega arith) (omega arith) (omega arith)

built_in_is : (b : BuiltIn) → Agrees (built_in_tree b) (form.range 0 3)
built_in_is GroupId = byte_is 0 0 3 (omega arith) (omega arith) (omega arith)
built_in_is GroupThreadId = byte_is 1 0 3 (omega arith) (omega arith) (omega arith)
built_in_is DispatchThreadId = byte_is 2 0 3 (omega arith) (omega arith) (omega arith)
built_in_is GroupIndex = byte_is 3 0 3 (omega arith) (omega arith) (omega arith)

two_flags_are : (a b : Bool) → Agrees (flags_tree (record { is_static = a; is_mutating = b })) form.flags
two_flags_are false false = byte_is 0 0 3 (omega arith) (omega arith) (omega arith)
two_flags_are true false = byte_is 1 0 3 (omega arith) (omega arith) (omega arith)
two_flags_are false true = byte_is 2 0 3 (omega arith) (omega arith) (omega arith)
two_flags_are true true = byte_is 3 0 3 (omega arith) (omega arith) (omega arith)

flags_are : (f : Flags) → Agrees (flags_tree f) form.flags
flags_are f = two_flags_are f.is_static f.is_mutating

generic_param_is : (p : GenericParam) → Agrees (generic_param_tree p) (form.alt 0 form.name (form.tag 1 form.name))
generic_param_is (Term n) = tag_is tt refl (name_is n)
generic_param_is (Fixed n) = tag_is tt refl (name_is n)

constraint_is : (c : Constraint) → Agrees (constraint_tree c) (form.num ▹ form.ref)
constraint_is c = pair_is (num_is c.parameter) (ref_is c.interface)

params_are : (p : Params) → Agrees (params_tree p) form.params
params_are p = pair_is (list_is generic_param_tree _ generic_param_is p.list) (list_is constraint_tree _ constraint_is p.constraints)

field_is : (f : Field) → Agrees (field_tree f) form.field
field_is f = pair_is (name_is f.name) (pair_is (access_is f.access) (term_is f.of))

bind_is : (b : Bind) → Agrees (bind_tree b) form.bind
bind_is b = pair_is (name_is b.name) (pair_is (access_is b.access) (term_is b.of))

conf_is : (c : Conf) → Agrees (conf_tree c) form.conf
conf_is c = pair_is (ref_is c.interface) (pair_is (list_is term_tree _ term_is c.associated) (pair_is (list_is evidence_part _ evidence_part_is c.bounds) (list_is ref_tree _ ref_is c.members)))

par_is : (p : Par) → Agrees (par_tree p) form.par
par_is p = pair_is (mode_is p.mode) (term_is p.of)

assoc_is : (a : Assoc) → Agrees (assoc_tree a) (form.name ▹ form.opt form.ref)
assoc_is a = pair_is (name_is a.name) (option_is ref_tree form.ref (λ r. tt) ref_is a.bound)

req_is : (r : Req) → Agrees (req_tree r) form.req
req_is r = pair_is (name_is r.name) (pair_is (flags_are r.flags) (pair_is (list_is par_tree _ par_is r.parameters) (term_is r.result)))

entry_is : (e : Entry) → Agrees (entry_tree e) form.entry
entry_is e = pair_is (num_is e.x) (pair_is (num_is e.y) (pair_is (num_is e.z) (list_is built_in_tree _ built_in_is e.inputs)))

binding_is : (b : Binding) → Agrees (binding_tree b) (form.num ▹ form.num)
binding_is b = pair_is (num_is b.number) (num_is b.set)

decl_is : (d : Decl) → Agrees (decl_tree d) form.decl
decl_is (decl.Struct d) =
    tag_is tt refl (pair_is (name_is d.path) (pair_is (access_is d.access) (pair_is (params_are d.params)
    (pair_is (list_is field_tree _ field_is d.fields) (pair_is (list_is conf_tree _ conf_is d.conformances) (list_is bind_tree _ bind_is d.bindings))))))
decl_is (decl.Interface d) =
    tag_is tt refl (pair_is (name_is d.path) (pair_is (access_is d.access) (pair_is (list_is assoc_tree _ assoc_is d.associated) (list_is req_tree _ req_is d.requirements))))
decl_is (decl.Extension d) =
    tag_is tt refl (pair_is (ref_is d.subject) (pair_is (params_are d.params) (pair_is (list_is conf_tree _ conf_is d.conformances) (list_is bind_tree _ bind_is d.bindings))))
decl_is (decl.Function d) =
    tag_is tt refl (pair_is (name_is d.path) (pair_is (access_is d.access) (pair_is (option_is ref_tree form.ref (λ r. tt) ref_is d.owner)
    (pair_is (flags_are d.flags) (pair_is (params_are d.params) (pair_is (list_is par_tree _ par_is d.parameters)
    (pair_is (term_is d.result) (option_is entry_tree form.entry (λ e. tt) entry_is d.entry))))))))
decl_is (decl.Alias d) = tag_is tt refl (pair_is (name_is d.path) (pair_is (access_is d.access) (term_is d.of)))
decl_is (decl.Constant d) = tag_is tt refl (pair_is (name_is d.path) (pair_is (access_is d.access) (pair_is (scalar_is d.scalar) (num_is d.bits))))
decl_is (decl.Global d) =
    tag_is tt refl (pair_is (name_is d.path) (pair_is (access_is d.access) (pair_is (term_is d.of) (option_is binding_tree (form.num ▹ form.num) (λ b. tt) binding_is d.binding))))

pub interface_is : (i : Interface) → Agrees (interface_tree i) form.interface
interface_is i = pair_is (name_is i.name) (pair_is (list_is (λ n. text n) _ name_is i.imports) (list_is decl_tree _ decl_is i.decls))
