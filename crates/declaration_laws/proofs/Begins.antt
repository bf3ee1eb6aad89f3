-- What tokens begin declarations.
use Rattle.std.proofs.Common.{Bool, true, false, ◌≡◌, ℕ, ◌||◌, ◌⊎◌, inl, inr, List, [], drop, Option, Some, None, refl, sym, ◌∙◌, ap}
use Rattle.slang_names.specs.declared.places.Place.{Place}
use Rattle.slang_names.specs.declared.places.Access.{Access}
use Rattle.slang_tree.specs.declared.types.Builtin.{Builtin}
use Rattle.slang_tree.specs.declared.types.Resource.{Resource}
use Rattle.slang_tree.specs.declared.types.TypeTree.{TypeTree}
use Rattle.slang_tree.specs.declared.statements.Attribute.{Attribute}
use Rattle.slang_tokens.specs.declared.tokens.Kind.TheVariants as k
use Rattle.slang_tokens.specs.declared.tokens.Mark.{Mark}
use Rattle.slang_tokens.specs.declared.tokens.Mark.TheVariants as m
use Rattle.slang_tokens.specs.declared.tokens.Word.{Word}
use Rattle.slang_tokens.specs.declared.tokens.Word.TheVariants as w
use Rattle.slang_reading.specs.Lexed.{Lexed}
use Rattle.slang_reading.specs.Reading.{first}
use Rattle.slang_reading.specs.Kinds.{sees}
use Rattle.slang_reading.proofs.Marks.{mark_is}
use Rattle.slang_grammar.specs.Tables.{builtin_of, resource_of}
use Rattle.slang_grammar.specs.Standing.{Stands}
use Rattle.slang_grammar.specs.Types as ty
use Rattle.slang_grammar.specs.Types.{TypeAt, TypeNameAt}
use Rattle.slang_grammar.proofs.Shared.{is_there}
use Rattle.statement_grammar.specs.Attributes as att
use Rattle.statement_grammar.specs.Attributes.{AttributeAt, AttributesAt}
use Rattle.declaration_grammar.specs.declared.tables.DeclarationUse.{DeclarationUse}
use Rattle.declaration_grammar.specs.declared.tables.DeclarationUse.TheVariants as u
use Rattle.declaration_grammar.specs.Tables.{mode_of, word_use, declaration_use}
use Rattle.declaration_grammar.specs.Parts as parts
use Rattle.declaration_grammar.specs.Parts.{is_access, access_at, AccessAt}
use Rattle.declaration_grammar.specs.DeclarationsDescent.{use_of}

-- ---- words

resource_typed : (word : Word) (r : Resource) → resource_of word ≡ Some r → word_use word ≡ u.Typed
resource_typed w.AssociatedType r e = cc
resource_typed w.Bool r e = cc
resource_typed w.Break r e = cc
resource_typed w.Const r e = cc
resource_typed w.Continue r e = cc
resource_typed w.Else r e = cc
resource_typed w.Extension r e = cc
resource_typed w.False r e = cc
resource_typed w.For r e = cc
resource_typed w.If r e = cc
resource_typed w.Import r e = cc
resource_typed w.In r e = cc
resource_typed w.InOut r e = cc
resource_typed w.Int r e = cc
resource_typed w.Int2 r e = cc
resource_typed w.Int3 r e = cc
resource_typed w.Int4 r e = cc
resource_typed w.Interface r e = cc
resource_typed w.Internal r e = cc
resource_typed w.Let r e = cc
resource_typed w.Module r e = cc
resource_typed w.Out r e = cc
resource_typed w.Private r e = cc
resource_typed w.Public r e = cc
resource_typed w.Return r e = cc
resource_typed w.Static r e = cc
resource_typed w.Struct r e = cc
resource_typed w.ThisType r e = cc
resource_typed w.ThisValue r e = cc
resource_typed w.True r e = cc
resource_typed w.TypeAlias r e = cc
resource_typed w.TypeDef r e = cc
resource_typed w.Uint r e = cc
resource_typed w.Uint2 r e = cc
resource_typed w.Uint3 r e = cc
resource_typed w.Uint4 r e = cc
resource_typed w.Void r e = cc
resource_typed w.Where r e = cc
resource_typed w.While r e = cc
resource_typed w.StructuredBuffer r e = refl
resource_typed w.RwStructuredBuffer r e = refl
resource_typed w.ConstantBuffer r e = refl
resource_typed w.ParameterBlock r e = refl

builtin_typed : (word : Word) (b : Builtin) → builtin_of word ≡ Some b → word_use word ≡ u.Typed
builtin_typed w.AssociatedType b e = cc
builtin_typed w.Bool b e = refl
builtin_typed w.Break b e = cc
builtin_typed w.Const b e = cc
builtin_typed w.Continue b e = cc
builtin_typed w.Else b e = cc
builtin_typed w.Extension b e = cc
builtin_typed w.False b e = cc
builtin_typed w.For b e = cc
builtin_typed w.If b e = cc
builtin_typed w.Import b e = cc
builtin_typed w.In b e = cc
builtin_typed w.InOut b e = cc
builtin_typed w.Int b e = refl
builtin_typed w.Int2 b e = refl
builtin_typed w.Int3 b e = refl
builtin_typed w.Int4 b e = refl
builtin_typed w.Interface b e = cc
builtin_typed w.Internal b e = cc
builtin_typed w.Let b e = cc
builtin_typed w.Module b e = cc
builtin_typed w.Out b e = cc
builtin_typed w.Private b e = cc
builtin_typed w.Public b e = cc
builtin_typed w.Return b e = cc
builtin_typed w.Static b e = cc
builtin_typed w.Struct b e = cc
builtin_typed w.ThisType b e = cc
builtin_typed w.ThisValue b e = cc
builtin_typed w.True b e = cc
builtin_typed w.TypeAlias b e = cc
builtin_typed w.TypeDef b e = cc
builtin_typed w.Uint b e = refl
builtin_typed w.Uint2 b e = refl
builtin_typed w.Uint3 b e = refl
builtin_typed w.Uint4 b e = refl
builtin_typed w.Void b e = refl
builtin_typed w.Where b e = cc
builtin_typed w.While b e = cc
builtin_typed w.StructuredBuffer b e = cc
builtin_typed w.RwStructuredBuffer b e = cc
builtin_typed w.ConstantBuffer b e = cc
builtin_typed w.ParameterBlock b e = cc

-- no type begins with the word of a mode
pub typed_mode : (word : Word) → word_use word ≡ u.Typed → mode_of word ≡ None
typed_mode w.AssociatedType e = cc
typed_mode w.Bool e = refl
typed_mode w.Break e = cc
typed_mode w.Const e = cc
typed_mode w.Continue e = cc
typed_mode w.Else e = cc
typed_mode w.Extension e = cc
typed_mode w.False e = cc
typed_mode w.For e = cc
typed_mode w.If e = cc
typed_mode w.Import e = cc
typed_mode w.In e = cc
typed_mode w.InOut e = cc
typed_mode w.Int e = refl
typed_mode w.Int2 e = refl
typed_mode w.Int3 e = refl
typed_mode w.Int4 e = refl
typed_mode w.Interface e = cc
typed_mode w.Internal e = cc
typed_mode w.Let e = cc
typed_mode w.Module e = cc
typed_mode w.Out e = cc
typed_mode w.Private e = cc
typed_mode w.Public e = cc
typed_mode w.Return e = cc
typed_mode w.Static e = cc
typed_mode w.Struct e = cc
typed_mode w.ThisType e = refl
typed_mode w.ThisValue e = cc
typed_mode w.True e = cc
typed_mode w.TypeAlias e = cc
typed_mode w.TypeDef e = cc
typed_mode w.Uint e = refl
typed_mode w.Uint2 e = refl
typed_mode w.Uint3 e = refl
typed_mode w.Uint4 e = refl
typed_mode w.Void e = refl
typed_mode w.Where e = cc
typed_mode w.While e = cc
typed_mode w.StructuredBuffer e = refl
typed_mode w.RwStructuredBuffer e = refl
typed_mode w.ConstantBuffer e = refl
typed_mode w.ParameterBlock e = refl

-- ---- what begins there

-- a token of that use stands there
pub record Begun (ts : List Lexed) (at : ℕ) (use_ : DeclarationUse) : Type 0 where
  pub tok : Lexed
  pub is : first (drop at ts) ≡ Some tok
  pub serves : declaration_use tok.kind ≡ use_

pub begun_use : {ts : List Lexed} {at : ℕ} {use_ : DeclarationUse} → Begun ts at use_ → use_of (first (drop at ts)) ≡ use_
begun_use b = ap use_of b.is ∙ b.serves

pub word_begun : {ts : List Lexed} {at : ℕ} {word : Word} {p : Place} → Stands ts at (k.Word word) p → Begun ts at (word_use word)
word_begun {word = word} {p = p} s = record { tok = record { kind = k.Word word; place = p; bytes = s.bytes }; is = s.is; serves = refl }

-- a mark begins nothing
pub begun_not : {ts : List Lexed} {at : ℕ} {use_ : DeclarationUse} (mark : Mark) → Begun ts at use_ → (u.Nothing ≡ use_ → ⊥) → sees mark (first (drop at ts)) ≡ false
begun_not mark b n = ap (sees mark) b.is ∙ by (sees mark (Some b.tok)) refl
  where
    by : (c : Bool) → sees mark (Some b.tok) ≡ c → c ≡ false
    by true q = absurd (n (sym (ap declaration_use (mark_is mark b.tok.kind q)) ∙ b.serves))
    by false q = refl

type_name_begun : {ts : List Lexed} {x : TypeTree} {from to : ℕ} → TypeNameAt ts x from to → Begun ts from u.Typed
type_name_begun (ty.builtin {p = p} {word = word} {b = b} s q) = record { tok = record { kind = k.Word word; place = p; bytes = s.bytes }; is = s.is; serves = builtin_typed word b q }
type_name_begun (ty.this_type {p = p} s) = word_begun s
type_name_begun (ty.name {id = id} i) = record { tok = record { kind = k.Name; place = id.place; bytes = id.name }; is = i.is; serves = refl }
type_name_begun (ty.generic {id = id} i a) = record { tok = record { kind = k.Name; place = id.place; bytes = id.name }; is = i.is; serves = refl }
type_name_begun (ty.resource {p = p} {word = word} {r = r} s q o v c) = record { tok = record { kind = k.Word word; place = p; bytes = s.bytes }; is = s.is; serves = resource_typed word r q }

-- the token with which a type begins
pub type_begun : {ts : List Lexed} {x : TypeTree} {from to : ℕ} → TypeAt ts x from to → Begun ts from u.Typed
type_begun (ty.plain s r) = type_name_begun s
type_begun (ty.array s r o l c) = type_name_begun s

-- ---- what begins with attributes and an access word

-- the bracket with which attributes begin
pub attribute_stands : {ts : List Lexed} {x : Attribute} {from to : ℕ} → AttributeAt ts x from to → (p : Place) × Stands ts from (k.Mark m.OpenBracket) p
attribute_stands (att.named {p = p} o i r) = (p, o)
attribute_stands (att.binding {p = p} o q b) = (p, o)

one_of : (a b c : Bool) → (a ≡ true) ⊎ ((b ≡ true) ⊎ (c ≡ true)) → (a || b || c) ≡ true
one_of true b c h = refl
one_of false true c h = refl
one_of false false true h = refl
one_of false false false h = elim h [ inl e ↦ cc | inr g ↦ elim g [ inl e ↦ cc | inr e ↦ cc ] ]

-- some token stands where it begins with attributes and an access word
pub begins_somewhere : {ts : List Lexed} {xs : List Attribute} {access : Option Access} {from mid next : ℕ} → AttributesAt ts [] xs from mid → AccessAt ts access mid next →
    (tok : Lexed) × (first (drop next ts) ≡ Some tok) → (tok : Lexed) × (first (drop from ts) ≡ Some tok)
begins_somewhere (att.more r s) v o = let b = attribute_stands r in (record { kind = k.Mark m.OpenBracket; place = b.0; bytes = b.1.bytes }, b.1.is)
begins_somewhere (att.end q) (parts.access {p = p} {word = word} s a) o = (record { kind = k.Word word; place = p; bytes = s.bytes }, s.is)
begins_somewhere (att.end q) (parts.no_access n) o = o

-- shows tells which uses begin such a thing
module _ (shows : DeclarationUse → Bool) (nothing : shows u.Nothing ≡ false) where
  -- what begins it behind attributes and an access word
  pub record Opens (ts : List Lexed) (at : ℕ) : Type 0 where
    pub tok : Lexed
    pub is : first (drop at ts) ≡ Some tok
    pub serves : shows (declaration_use tok.kind) ≡ true

  pub opens : {ts : List Lexed} {at : ℕ} (use_ : DeclarationUse) → shows use_ ≡ true → Begun ts at use_ → Opens ts at
  opens use_ q b = record { tok = b.tok; is = b.is; serves = ap shows b.serves ∙ q }

  opens_not : {ts : List Lexed} {at : ℕ} (mark : Mark) → Opens ts at → sees mark (first (drop at ts)) ≡ false
  opens_not mark o = ap (sees mark) o.is ∙ by (sees mark (Some o.tok)) refl
    where
      by : (c : Bool) → sees mark (Some o.tok) ≡ c → c ≡ false
      by true q = let z = sym nothing ∙ (ap (λ kind. shows (declaration_use kind)) (sym (mark_is mark o.tok.kind q)) ∙ o.serves) in cc
      by false q = refl

  -- no closing brace begins it
  pub opens_inside : {ts : List Lexed} {xs : List Attribute} {access : Option Access} {from mid next : ℕ} → AttributesAt ts [] xs from mid → AccessAt ts access mid next → Opens ts next → sees m.CloseBrace (first (drop from ts)) ≡ false
  opens_inside (att.more r s) v o = let b = attribute_stands r in ap (sees m.CloseBrace) b.1.is
  opens_inside (att.end q) (parts.access s a) o = ap (sees m.CloseBrace) s.is
  opens_inside (att.end q) (parts.no_access n) o = opens_not m.CloseBrace o

  -- and one of these tokens does
  pub opens_one : {ts : List Lexed} {xs : List Attribute} {access : Option Access} {from mid next : ℕ} → AttributesAt ts [] xs from mid → AccessAt ts access mid next → Opens ts next →
      (sees m.OpenBracket (first (drop from ts)) || is_access (access_at (first (drop from ts))) || shows (use_of (first (drop from ts)))) ≡ true
  opens_one {ts = ts} {from = from} (att.more r s) v o = let b = attribute_stands r in let x = first (drop from ts) in one_of (sees m.OpenBracket x) (is_access (access_at x)) (shows (use_of x)) (inl (is_there ts m.OpenBracket from b.0 b.1))
  opens_one {ts = ts} {from = from} (att.end q) (parts.access s a) o = let x = first (drop from ts) in one_of (sees m.OpenBracket x) (is_access (access_at x)) (shows (use_of x)) (inr (inl (ap (λ x. is_access (access_at x)) s.is ∙ ap is_access a)))
  opens_one {ts = ts} {from = from} (att.end q) (parts.no_access n) o = let x = first (drop from ts) in one_of (sees m.OpenBracket x) (is_access (access_at x)) (shows (use_of x)) (inr (inr (ap (λ x. shows (use_of x)) o.is ∙ o.serves)))
