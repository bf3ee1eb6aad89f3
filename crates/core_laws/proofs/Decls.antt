-- The trees of declarations tell the declarations.
use Rattle.std.proofs.Common.{◌≡◌, Bool, true, false, [], ◌∷◌, get_or, refl, sym, ap, ◌∙◌, arith}
use Rattle.slang_names.specs.declared.places.Access.{Access}
use Rattle.slang_names.specs.declared.places.Access.TheVariants.{Public, Internal, Private}
use Rattle.slang_names.specs.declared.places.Mode.{Mode}
use Rattle.slang_names.specs.declared.places.Mode.TheVariants.{In, Out, InOut}
use Rattle.slang_core.specs.declared.types.TypeTerm.{TypeTerm}
use Rattle.slang_core.specs.declared.declarations.AliasDecl.{AliasDecl}
use Rattle.slang_core.specs.declared.declarations.Assoc.{Assoc}
use Rattle.slang_core.specs.declared.declarations.Bind.{Bind}
use Rattle.slang_core.specs.declared.declarations.Binding.{Binding}
use Rattle.slang_core.specs.declared.declarations.BuiltIn.{BuiltIn}
use Rattle.slang_core.specs.declared.declarations.Conf.{Conf}
use Rattle.slang_core.specs.declared.declarations.ConstantDecl.{ConstantDecl}
use Rattle.slang_core.specs.declared.declarations.Constraint.{Constraint}
use Rattle.slang_core.specs.declared.declarations.Decl.{Decl}
use Rattle.slang_core.specs.declared.declarations.Entry.{Entry}
use Rattle.slang_core.specs.declared.declarations.ExtensionDecl.{ExtensionDecl}
use Rattle.slang_core.specs.declared.declarations.Field.{Field}
use Rattle.slang_core.specs.declared.declarations.Flags.{Flags}
use Rattle.slang_core.specs.declared.declarations.FunctionDecl.{FunctionDecl}
use Rattle.slang_core.specs.declared.declarations.GenericParam.{GenericParam}
use Rattle.slang_core.specs.declared.declarations.GlobalDecl.{GlobalDecl}
use Rattle.slang_core.specs.declared.declarations.Interface.{Interface}
use Rattle.slang_core.specs.declared.declarations.InterfaceDecl.{InterfaceDecl}
use Rattle.slang_core.specs.declared.declarations.Par.{Par}
use Rattle.slang_core.specs.declared.declarations.Params.{Params}
use Rattle.slang_core.specs.declared.declarations.Req.{Req}
use Rattle.slang_core.specs.declared.declarations.StructDecl.{StructDecl}
use Rattle.slang_core.specs.declared.declarations.BuiltIn.TheVariants.{GroupId, GroupThreadId, DispatchThreadId, GroupIndex}
use Rattle.slang_core.specs.declared.declarations.GenericParam.TheVariants.{Term, Fixed}
use Rattle.slang_core.specs.declared.declarations.Decl.TheVariants as decl
use Rattle.slang_core.specs.TypeTrees.{ref_tree}
use Rattle.slang_core.specs.EvidenceTrees.{evidence_part}
use Rattle.slang_core.specs.DeclarationTrees.{access_tree, mode_tree, flags_tree, built_in_tree, term_tree, generic_param_tree, constraint_tree, params_tree, field_tree, bind_tree, conf_tree, par_tree, assoc_tree, req_tree, entry_tree, binding_tree, struct_tree, interface_decl_tree, extension_tree, function_tree, alias_tree, constant_tree, global_tree, decl_tree, interface_tree}
use Rattle.form_grammar.specs.Trees.{Tree, byte}
use Rattle.core_laws.proofs.Parts.{Tells, behind_tag, tags, left, right, texts, numbers, un_nested, list_tells, option_tells, names_tell, ref_tells, scalar_tells}
use Rattle.core_laws.proofs.Types.{type_tells}
use Rattle.core_laws.proofs.Evidences.{evidence_part_tells}

access_tells : (a : Access) → Tells access_tree a
access_tells Public Public e = refl
access_tells Internal Internal e = refl
access_tells Private Private e = refl
access_tells _ _ e = absurd cc

mode_tells : (a : Mode) → Tells mode_tree a
mode_tells In In e = refl
mode_tells Out Out e = refl
mode_tells InOut InOut e = refl
mode_tells _ _ e = absurd cc

built_in_tells : (a : BuiltIn) → Tells built_in_tree a
built_in_tells GroupId GroupId e = refl
built_in_tells GroupThreadId GroupThreadId e = refl
built_in_tells DispatchThreadId DispatchThreadId e = refl
built_in_tells GroupIndex GroupIndex e = refl
built_in_tells _ _ e = absurd cc

abbrev two : Bool → Bool → Flags
two a b = record { is_static = a; is_mutating = b }

-- the flags of a byte
abbrev flags_of : Tree → Flags
flags_of (byte n) = get_or (two false false ∷ (two true false ∷ (two false true ∷ (two true true ∷ [])))) n (two false false)
flags_of _ = two false false

flags_back : (a b : Bool) → flags_of (flags_tree (two a b)) ≡ two a b
flags_back true true = refl
flags_back true false = refl
flags_back false true = refl
flags_back false false = refl

flags_tells : (a : Flags) → Tells flags_tree a
flags_tells a b e = sym (flags_back a.is_static a.is_mutating) ∙ (ap flags_of e ∙ flags_back b.is_static b.is_mutating)

pub term_tells : (t : TypeTerm) → Tells term_tree t
term_tells t u e = type_tells t u (un_nested e)

generic_param_tells : (p : GenericParam) → Tells generic_param_tree p
generic_param_tells (Term n) (Term m) e = cc
generic_param_tells (Fixed n) (Fixed m) e = cc
generic_param_tells _ _ e = absurd cc

constraint_tells : (c : Constraint) → Tells constraint_tree c
constraint_tells c d e =
    let a = numbers (left e) in
    let b = ref_tells c.interface d.interface (right e) in
    λ i. record { parameter = a i; interface = b i }

params_tells : (p : Params) → Tells params_tree p
params_tells p q e =
    let a = list_tells generic_param_tree generic_param_tells p.list q.list (left e) in
    let b = list_tells constraint_tree constraint_tells p.constraints q.constraints (right e) in
    λ i. record { list = a i; constraints = b i }

field_tells : (f : Field) → Tells field_tree f
field_tells f g e =
    let a = texts (left e) in
    let b = access_tells f.access g.access (left (right e)) in
    let c = term_tells f.of g.of (right (right e)) in
    λ i. record { name = a i; access = b i; of = c i }

bind_tells : (f : Bind) → Tells bind_tree f
bind_tells f g e =
    let a = texts (left e) in
    let b = access_tells f.access g.access (left (right e)) in
    let c = term_tells f.of g.of (right (right e)) in
    λ i. record { name = a i; access = b i; of = c i }

conf_tells : (c : Conf) → Tells conf_tree c
conf_tells c d e =
    let p = ref_tells c.interface d.interface (left e) in
    let q = list_tells term_tree term_tells c.associated d.associated (left (right e)) in
    let r = list_tells evidence_part evidence_part_tells c.bounds d.bounds (left (right (right e))) in
    let s = list_tells ref_tree ref_tells c.members d.members (right (right (right e))) in
    λ i. record { interface = p i; associated = q i; bounds = r i; members = s i }

par_tells : (p : Par) → Tells par_tree p
par_tells p q e =
    let a = mode_tells p.mode q.mode (left e) in
    let b = term_tells p.of q.of (right e) in
    λ i. record { mode = a i; of = b i }

assoc_tells : (a : Assoc) → Tells assoc_tree a
assoc_tells a b e =
    let p = texts (left e) in
    let q = option_tells ref_tree ref_tells a.bound b.bound (right e) in
    λ i. record { name = p i; bound = q i }

req_tells : (r : Req) → Tells req_tree r
req_tells r s e =
    let a = texts (left e) in
    let b = flags_tells r.flags s.flags (left (right e)) in
    let c = list_tells par_tree par_tells r.parameters s.parameters (left (right (right e))) in
    let d = term_tells r.result s.result (right (right (right e))) in
    λ i. record { name = a i; flags = b i; parameters = c i; result = d i }

entry_tells : (n : Entry) → Tells entry_tree n
entry_tells n m e =
    let a = numbers (left e) in
    let b = numbers (left (right e)) in
    let c = numbers (left (right (right e))) in
    let d = list_tells built_in_tree built_in_tells n.inputs m.inputs (right (right (right e))) in
    λ i. record { x = a i; y = b i; z = c i; inputs = d i }

binding_tells : (b : Binding) → Tells binding_tree b
binding_tells b c e =
    let p = numbers (left e) in
    let q = numbers (right e) in
    λ i. record { number = p i; set = q i }

struct_tells : (d : StructDecl) → Tells struct_tree d
struct_tells d f e =
    let r1 = right e in
    let r2 = right r1 in
    let r3 = right r2 in
    let r4 = right r3 in
    let a = texts (left e) in
    let b = access_tells d.access f.access (left r1) in
    let c = params_tells d.params f.params (left r2) in
    let g = list_tells field_tree field_tells d.fields f.fields (left r3) in
    let h = list_tells conf_tree conf_tells d.conformances f.conformances (left r4) in
    let j = list_tells bind_tree bind_tells d.bindings f.bindings (right r4) in
    λ i. record { path = a i; access = b i; params = c i; fields = g i; conformances = h i; bindings = j i }

interface_decl_tells : (d : InterfaceDecl) → Tells interface_decl_tree d
interface_decl_tells d f e =
    let a = texts (left e) in
    let b = access_tells d.access f.access (left (right e)) in
    let c = list_tells assoc_tree assoc_tells d.associated f.associated (left (right (right e))) in
    let g = list_tells req_tree req_tells d.requirements f.requirements (right (right (right e))) in
    λ i. record { path = a i; access = b i; associated = c i; requirements = g i }

extension_tells : (d : ExtensionDecl) → Tells extension_tree d
extension_tells d f e =
    let a = ref_tells d.subject f.subject (left e) in
    let b = params_tells d.params f.params (left (right e)) in
    let c = list_tells conf_tree conf_tells d.conformances f.conformances (left (right (right e))) in
    let g = list_tells bind_tree bind_tells d.bindings f.bindings (right (right (right e))) in
    λ i. record { subject = a i; params = b i; conformances = c i; bindings = g i }

function_tells : (d : FunctionDecl) → Tells function_tree d
function_tells d f e =
    let r1 = right e in
    let r2 = right r1 in
    let r3 = right r2 in
    let r4 = right r3 in
    let r5 = right r4 in
    let r6 = right r5 in
    let a = texts (left e) in
    let b = access_tells d.access f.access (left r1) in
    let c = option_tells ref_tree ref_tells d.owner f.owner (left r2) in
    let g = flags_tells d.flags f.flags (left r3) in
    let h = params_tells d.params f.params (left r4) in
    let j = list_tells par_tree par_tells d.parameters f.parameters (left r5) in
    let k = term_tells d.result f.result (left r6) in
    let l = option_tells entry_tree entry_tells d.entry f.entry (right r6) in
    λ i. record { path = a i; access = b i; owner = c i; flags = g i; params = h i; parameters = j i; result = k i; entry = l i }

alias_tells : (d : AliasDecl) → Tells alias_tree d
alias_tells d f e =
    let a = texts (left e) in
    let b = access_tells d.access f.access (left (right e)) in
    let c = term_tells d.of f.of (right (right e)) in
    λ i. record { path = a i; access = b i; of = c i }

constant_tells : (d : ConstantDecl) → Tells constant_tree d
constant_tells d f e =
    let a = texts (left e) in
    let b = access_tells d.access f.access (left (right e)) in
    let c = scalar_tells d.scalar f.scalar (left (right (right e))) in
    let g = numbers (right (right (right e))) in
    λ i. record { path = a i; access = b i; scalar = c i; bits = g i }

global_tells : (d : GlobalDecl) → Tells global_tree d
global_tells d f e =
    let a = texts (left e) in
    let b = access_tells d.access f.access (left (right e)) in
    let c = term_tells d.of f.of (left (right (right e))) in
    let g = option_tells binding_tree binding_tells d.binding f.binding (right (right (right e))) in
    λ i. record { path = a i; access = b i; of = c i; binding = g i }

decl_tells : (d : Decl) → Tells decl_tree d
decl_tells (decl.Struct d) (decl.Struct f) e = ap decl.Struct (struct_tells d f (behind_tag e))
decl_tells (decl.Interface d) (decl.Interface f) e = ap decl.Interface (interface_decl_tells d f (behind_tag e))
decl_tells (decl.Extension d) (decl.Extension f) e = ap decl.Extension (extension_tells d f (behind_tag e))
decl_tells (decl.Function d) (decl.Function f) e = ap decl.Function (function_tells d f (behind_tag e))
decl_tells (decl.Alias d) (decl.Alias f) e = ap decl.Alias (alias_tells d f (behind_tag e))
decl_tells (decl.Constant d) (decl.Constant f) e = ap decl.Constant (constant_tells d f (behind_tag e))
decl_tells (decl.Global d) (decl.Global f) e = ap decl.Global (global_tells d f (behind_tag e))
decl_tells _ _ e = absurd (omega (arith, tags e))

pub interface_tells : (n : Interface) → Tells interface_tree n
interface_tells n m e =
    let a = texts (left e) in
    let b = names_tell n.imports m.imports (left (right e)) in
    let c = list_tells decl_tree decl_tells n.decls m.decls (right (right e)) in
    λ i. record { name = a i; imports = b i; decls = c i }
