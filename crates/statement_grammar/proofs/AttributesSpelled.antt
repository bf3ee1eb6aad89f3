-- Attributes: what the descent reads is spelled.
use Rattle.std.proofs.Common.{Bool, true, false, not, ◌≡◌, ℕ, ◌+◌, ◌||◌, if◌then◌else◌, List, [], ◌∷◌, ◌++◌, codes, drop, Option, Some, None, refl, sym, ◌∙◌, ap, subst}
use Rattle.std.specs.Str.{bytes_eq}
use Rattle.std.proofs.lemmas.Slice.Eq.{bytes_eq-Decides}
use Rattle.slang_names.specs.declared.places.Place.{Place}
use Rattle.slang_names.specs.declared.numbers.Number.{Number}
use Rattle.slang_tree.specs.declared.types.Identifier.{Identifier}
use Rattle.slang_tree.specs.declared.statements.Attribute.{Attribute}
use Rattle.slang_tree.specs.declared.statements.AttributeNode.TheVariants as n
use Rattle.slang_tree.specs.declared.statements.Literal.{Literal}
use Rattle.slang_tree.specs.declared.statements.Literal.TheVariants as lit
use Rattle.slang_tokens.specs.declared.tokens.Kind.{Kind}
use Rattle.slang_tokens.specs.declared.tokens.Kind.TheVariants as k
use Rattle.slang_tokens.specs.declared.tokens.Mark.TheVariants as m
use Rattle.slang_reading.specs.Lexed.{Lexed}
use Rattle.slang_reading.specs.Reading.{Choice, Take, Refuse, first, pure, next, turns}
use Rattle.slang_reading.specs.Kinds.{sees, span}
use Rattle.slang_reading.proofs.Marks.{mark_is, sees_some}
use Rattle.slang_reading.proofs.Exact.{Post, PostChoice, post_bind, post_next, post_fits, post_turns, post_over, post_weaken}
use Rattle.slang_grammar.specs.Standing.{Stands, NameStands, IsNot}
use Rattle.slang_grammar.specs.Descent.{Limits, expect, identifier, if_short}
use Rattle.slang_grammar.proofs.Shared.{stands, name_stands, IsMarkAt, post_expect}
use Rattle.statement_grammar.specs.declared.attributes.KnownAttribute.{KnownAttribute}
use Rattle.statement_grammar.specs.declared.attributes.KnownAttribute.TheVariants as known
use Rattle.statement_grammar.specs.declared.attributes.Target.{Target}
use Rattle.statement_grammar.specs.AttributeTables.{attribute_of}
use Rattle.statement_grammar.specs.Attributes as t
use Rattle.statement_grammar.specs.Attributes.{attributed, unquoted, StringStands, SpelledStands, LiteralAt, MoreLiteralsAt, AttributeRestAt, BindingAt, AttributeAt, AttributesAt}
use Rattle.statement_grammar.specs.AttributeRules.{Want, wants_of}
use Rattle.statement_grammar.specs.AttributesDescent.{Given, if_obeyed, Literals, Noted, wanted, later, wants_more, with_literal, literal_by, literal_at, literal, comma_by, literal_more, close_by, close, literals, rest_by, attribute_rest, admits, noted, spelled_by, spelled_at, spelled, number_by, number_at, number, named, binding_rest, binding_by, binding_at, binding, attribute_by, attribute_at, attribute, attributes}
use Rattle.statement_grammar.proofs.Shared.{post_both, post_obeyed, post_short}

string_stands : (ts : List Lexed) (at : ℕ) (tok : Lexed) → first (drop at ts) ≡ Some tok → tok.kind ≡ k.String → StringStands ts at tok.place tok.bytes
string_stands ts at tok e d = record { is = e ∙ ap (λ k. Some (record { kind = k; place = tok.place; bytes = tok.bytes })) d }

module _ (ts : List Lexed) (limits : Limits) (place : Place) where
  -- one more literal
  IsLiteral : Literals → ℕ → Literals → ℕ → Type 0
  IsLiteral r at longer to = (x : Literal) × LiteralAt ts x at × (longer.0 ≡ r.0 ++ x ∷ []) × (to ≡ at + 1)

  post_with : (r : Literals) (at : ℕ) (tok : Lexed) (x : Literal) → LiteralAt ts x at → PostChoice ts (IsLiteral r at) at (Some tok) (with_literal limits place r x)
  unfolding IsLiteral
  post_with r at tok x l = post_obeyed ts (IsLiteral r at) at (Some tok) (limits.free || wanted r.1 x) place (Take (pure (r.0 ++ x ∷ [], later r.1))) (λ seen1. (x, l, refl, refl))

  post_literal_by : (r : Literals) (at : ℕ) (tok : Lexed) → first (drop at ts) ≡ Some tok → (kind : Kind) → tok.kind ≡ kind → PostChoice ts (IsLiteral r at) at (Some tok) (literal_by limits place r tok kind)
  post_literal_by r at tok e (k.Number v) q = post_with r at tok (lit.Number tok.place v) (t.number (stands ts at tok (k.Number v) e q))
  post_literal_by r at tok e k.String q = post_with r at tok (lit.String tok.place (unquoted tok.bytes)) (t.string (string_stands ts at tok e q))
  post_literal_by r at tok e k.Name q = tt
  post_literal_by r at tok e (k.Word word) q = tt
  post_literal_by r at tok e (k.Mark mark) q = tt

  post_literal_at : (r : Literals) (at : ℕ) (x : Option Lexed) → first (drop at ts) ≡ x → PostChoice ts (IsLiteral r at) at x (literal_at limits place r x)
  post_literal_at r at (Some tok) e = post_literal_by r at tok e tok.kind refl
  post_literal_at r at None e = tt

  post_literal : (r : Literals) (at seen : ℕ) → Post (IsLiteral r at) (literal limits place r ts at seen)
  unfolding literal
  post_literal r at seen = post_next ts (IsLiteral r at) (literal_at limits place r) at seen (λ x e. post_literal_at r at x e)

  -- a comma and one more literal
  IsMore : Literals → Literals → ℕ → ℕ → Type 0
  IsMore r longer at to = (p : Place) × (x : Literal) × Stands ts at (k.Mark m.Comma) p × LiteralAt ts x (at + 1) × (longer.0 ≡ r.0 ++ x ∷ []) × (to ≡ at + 1 + 1)

  post_more : (r : Literals) (at seen : ℕ) → Post (λ longer to. IsMore r longer at to) (literal_more limits place r ts at seen)
  unfolding literal_more IsMore IsLiteral
  post_more r at seen = post_next ts (λ longer to. IsMore r longer at to) _ at seen (λ x e. by x e (sees m.Comma x) refl)
    where
      by : (x : Option Lexed) → first (drop at ts) ≡ x → (b : Bool) → sees m.Comma x ≡ b → PostChoice ts (λ longer to. IsMore r longer at to) at x (comma_by limits place r b)
      by (Some tok) e true q = let s = sees_some m.Comma (Some tok) q in
          post_obeyed ts (λ longer to. IsMore r longer at to) at (Some tok) (limits.free || wants_more r.1) place (Take (literal limits place r))
          (λ seen1. post_weaken (IsLiteral r (at + 1)) (λ longer to. IsMore r longer at to) (λ longer to l. (s.0.place, l.0, stands ts at s.0 (k.Mark m.Comma) (e ∙ s.1) s.2, l.1, l.2, l.3))
          (literal limits place r ts (at + 1) seen1) (post_literal r (at + 1) seen1))
      by None e true q = post_obeyed ts (λ longer to. IsMore r longer at to) at None (limits.free || wants_more r.1) place (Take (literal limits place r)) tt
      by x e false q = tt

  IsClose : Literals → ℕ → List Literal → ℕ → Type 0
  IsClose r at list to = (p : Place) × Stands ts at (k.Mark m.CloseParen) p × (list ≡ r.0) × (to ≡ at + 1)

  post_close : (r : Literals) (at seen : ℕ) → Post (IsClose r at) (close limits place r ts at seen)
  unfolding close IsClose
  post_close r at seen = post_next ts (IsClose r at) _ at seen (λ x e. by x e (sees m.CloseParen x) refl)
    where
      by : (x : Option Lexed) → first (drop at ts) ≡ x → (b : Bool) → sees m.CloseParen x ≡ b → PostChoice ts (IsClose r at) at x (close_by limits place r b)
      by (Some tok) e true q = let s = sees_some m.CloseParen (Some tok) q in
          post_obeyed ts (IsClose r at) at (Some tok) (limits.free || not (wants_more r.1)) place (Take (pure r.0)) (λ seen1. (s.0.place, stands ts at s.0 (k.Mark m.CloseParen) (e ∙ s.1) s.2, refl, refl))
      by None e true q = post_obeyed ts (IsClose r at) at None (limits.free || not (wants_more r.1)) place (Take (pure r.0)) tt
      by x e false q = tt

  abbrev IsRest : ℕ → List Literal × Place → ℕ → Type 0
  IsRest at a to = AttributeRestAt ts a.0 a.1 at to

  post_literals : (wants : List Want) (at seen : ℕ) (p : Place) → Stands ts at (k.Mark m.OpenParen) p → Post (IsRest at) (literals limits place wants ts (at + 1) seen)
  unfolding literals IsLiteral IsMore IsClose
  post_literals wants at seen p o =
      post_bind ts (IsLiteral ([], wants) (at + 1)) (IsRest at) (literal limits place ([], wants)) _ (at + 1) seen (post_literal ([], wants) (at + 1) seen)
      (λ r mid seen1 l. post_bind ts (λ all to. MoreLiteralsAt ts r.0 all.0 mid to) (IsRest at) (turns (sees m.Comma) (literal_more limits place) limits.turns r) _ mid seen1
      (post_turns ts (λ a b from to. MoreLiteralsAt ts a.0 b.0 from to) IsMore (sees m.Comma) (literal_more limits place) (λ a at. t.end)
      (λ a b c from mid to o q. t.more o.2 o.3 (subst (λ n. MoreLiteralsAt ts (a.0 ++ o.1 ∷ []) c.0 n to) o.5 (subst (λ list. MoreLiteralsAt ts list c.0 mid to) o.4 q)))
      (λ a from seen2 e. post_more a from seen2) limits.turns r mid seen1)
      (λ all mid2 seen2 q. post_bind ts (IsClose all mid2) (IsRest at) (close limits place all) _ mid2 seen2 (post_close all mid2 seen2)
      (λ list mid3 seen3 c. post_bind ts (IsMarkAt ts m.CloseBracket mid3) (IsRest at) (expect m.CloseBracket) _ mid3 seen3 (post_expect ts m.CloseBracket mid3 seen3)
      (λ end to seen4 z. subst (λ list. AttributeRestAt ts list end at to) (sym c.2) (subst (λ n. AttributeRestAt ts all.0 end at n) (sym (z.1 ∙ ap (λ n. n + 1) c.3))
      (t.literals o l.1 (subst (λ n. MoreLiteralsAt ts (l.0 ∷ []) all.0 n mid2) l.3 (subst (λ list. MoreLiteralsAt ts list all.0 mid mid2) l.2 q)) c.1
      (subst (λ n. Stands ts n (k.Mark m.CloseBracket) end) c.3 z.0)))))))

  post_attribute_rest : (wants : List Want) (at seen : ℕ) → Post (IsRest at) (attribute_rest limits place wants ts at seen)
  unfolding attribute_rest
  post_attribute_rest wants at seen = post_next ts (IsRest at) _ at seen (λ x e. by x e (sees m.OpenParen x) refl (sees m.CloseBracket x) refl)
    where
      by : (x : Option Lexed) → first (drop at ts) ≡ x → (b : Bool) → sees m.OpenParen x ≡ b → (c : Bool) → sees m.CloseBracket x ≡ c → PostChoice ts (IsRest at) at x (rest_by limits place wants x b c)
      by (Some tok) e true q c r = let s = sees_some m.OpenParen (Some tok) q in
          post_obeyed ts (IsRest at) at (Some tok) (limits.free || wants_more wants) place (Take (literals limits place wants)) (λ seen1. post_literals wants at seen1 s.0.place (stands ts at s.0 (k.Mark m.OpenParen) (e ∙ s.1) s.2))
      by None e true q c r = post_obeyed ts (IsRest at) at None (limits.free || wants_more wants) place (Take (literals limits place wants)) tt
      by (Some tok) e false q true r =
          post_obeyed ts (IsRest at) at (Some tok) (limits.free || not (wants_more wants)) place (Take (pure ([], tok.place)))
          (λ seen1. t.no_literals (stands ts at tok (k.Mark m.CloseBracket) e (mark_is m.CloseBracket tok.kind r)))
      by None e false q true r = post_obeyed ts (IsRest at) at None (limits.free || not (wants_more wants)) place (Take (pure ([], _))) tt
      by x e false q false r = tt

-- ---- the names and numbers of a binding

IsSpelled : List Lexed → List ℕ → ℕ → Place → ℕ → Type 0
IsSpelled ts bytes at p to = SpelledStands ts at p bytes × (to ≡ at + 1)

spelled_stands : (ts : List Lexed) (at : ℕ) (tok : Lexed) (bytes : List ℕ) → first (drop at ts) ≡ Some tok → tok.kind ≡ k.Name → bytes_eq bytes tok.bytes ≡ true → SpelledStands ts at tok.place bytes
spelled_stands ts at tok bytes e d b =
    record { is = (name_stands ts at tok e d).is ∙ ap (λ y. Some (record { kind = k.Name; place = tok.place; bytes = y })) (sym ((bytes_eq-Decides bytes tok.bytes).0 b)) }

post_spelled : (ts : List Lexed) (bytes : List ℕ) (at seen : ℕ) → Post (IsSpelled ts bytes at) (spelled bytes ts at seen)
unfolding spelled IsSpelled
post_spelled ts bytes at seen = post_next ts (IsSpelled ts bytes at) (spelled_at bytes) at seen go
  where
    test : (tok : Lexed) → first (drop at ts) ≡ Some tok → tok.kind ≡ k.Name → (b : Bool) → bytes_eq bytes tok.bytes ≡ b → PostChoice ts (IsSpelled ts bytes at) at (Some tok) (if b then Take (pure tok.place) else Refuse)
    test tok e d true q = λ seen1. (spelled_stands ts at tok bytes e d q, refl)
    test tok e d false q = tt

    by : (tok : Lexed) → first (drop at ts) ≡ Some tok → (kind : Kind) → tok.kind ≡ kind → PostChoice ts (IsSpelled ts bytes at) at (Some tok) (spelled_by bytes tok kind)
    by tok e k.Name d = test tok e d (bytes_eq bytes tok.bytes) refl
    by tok e (k.Word word) d = tt
    by tok e (k.Number v) d = tt
    by tok e k.String d = tt
    by tok e (k.Mark mark) d = tt

    go : (x : Option Lexed) → first (drop at ts) ≡ x → PostChoice ts (IsSpelled ts bytes at) at x (spelled_at bytes x)
    go (Some tok) e = by tok e tok.kind refl
    go None e = tt

IsNumber : List Lexed → ℕ → Number → ℕ → Type 0
IsNumber ts at v to = (p : Place) × Stands ts at (k.Number v) p × (to ≡ at + 1)

post_number : (ts : List Lexed) (at seen : ℕ) → Post (IsNumber ts at) (number ts at seen)
unfolding number IsNumber
post_number ts at seen = post_next ts (IsNumber ts at) number_at at seen go
  where
    by : (tok : Lexed) → first (drop at ts) ≡ Some tok → (kind : Kind) → tok.kind ≡ kind → PostChoice ts (IsNumber ts at) at (Some tok) (number_by kind)
    by tok e (k.Number v) d = λ seen1. (tok.place, stands ts at tok (k.Number v) e d, refl)
    by tok e k.Name d = tt
    by tok e (k.Word word) d = tt
    by tok e k.String d = tt
    by tok e (k.Mark mark) d = tt

    go : (x : Option Lexed) → first (drop at ts) ≡ x → PostChoice ts (IsNumber ts at) at x (number_at x)
    go (Some tok) e = by tok e tok.kind refl
    go None e = tt

-- ---- attributes

module _ (ts : List Lexed) (limits : Limits) (targets : List Target) (given : Given) where
  -- one more attribute
  IsOne : ℕ → Given → ℕ → Type 0
  IsOne at longer to = (x : Attribute) × AttributeAt ts x at to × (longer.0 ≡ given.0 ++ x ∷ [])

  post_named : (begin : Place) (id : Identifier) (named_as : Option KnownAttribute) (at seen : ℕ) → Stands ts at (k.Mark m.OpenBracket) begin → NameStands ts (at + 1) id →
      Post (IsOne at) (named limits targets given begin id named_as ts (at + 1 + 1) seen)
  unfolding named IsOne
  post_named begin id named_as at seen o i =
      post_bind ts (λ a to. AttributeRestAt ts a.0 a.1 (at + 1 + 1) to) (IsOne at) (attribute_rest limits id.place (wants_of named_as)) _ (at + 1 + 1) seen
      (post_attribute_rest ts limits id.place (wants_of named_as) (at + 1 + 1) seen) (λ a to seen1 r. (attributed (span begin a.1) (n.Named id a.0), t.named o i r, refl))

  post_binding_rest : (begin place vulkan separator binder : Place) (q : Place) (at seen : ℕ) → Stands ts at (k.Mark m.OpenBracket) begin → Stands ts (at + 1) (k.Mark m.OpenBracket) q →
      SpelledStands ts (at + 1 + 1) vulkan (codes "vk") → Stands ts (at + 1 + 1 + 1) (k.Mark m.DoubleColon) separator → SpelledStands ts (at + 1 + 1 + 1 + 1) binder (codes "binding") →
      Post (IsOne at) (binding_rest limits targets given begin place ts (at + 1 + 1 + 1 + 1 + 1) seen)
  unfolding binding_rest IsOne IsNumber
  post_binding_rest begin place vulkan separator binder q at seen o o2 v d b =
      post_bind ts (IsMarkAt ts m.OpenParen _) (IsOne at) (expect m.OpenParen) _ _ seen (post_expect ts m.OpenParen _ seen)
      (λ p3 a1 s1 e1. post_bind ts (IsNumber ts a1) (IsOne at) number _ a1 s1 (post_number ts a1 s1)
      (λ x a2 s2 e2. post_bind ts (IsMarkAt ts m.Comma a2) (IsOne at) (expect m.Comma) _ a2 s2 (post_expect ts m.Comma a2 s2)
      (λ p5 a3 s3 e3. post_bind ts (IsNumber ts a3) (IsOne at) number _ a3 s3 (post_number ts a3 s3)
      (λ y a4 s4 e4. post_bind ts (IsMarkAt ts m.CloseParen a4) (IsOne at) (expect m.CloseParen) _ a4 s4 (post_expect ts m.CloseParen a4 s4)
      (λ p7 a5 s5 e5. post_bind ts (IsMarkAt ts m.CloseBracket a5) (IsOne at) (expect m.CloseBracket) _ a5 s5 (post_expect ts m.CloseBracket a5 s5)
      (λ p8 a6 s6 e6. post_bind ts (IsMarkAt ts m.CloseBracket a6) (IsOne at) (expect m.CloseBracket) _ a6 s6 (post_expect ts m.CloseBracket a6 s6)
      (λ end to s7 e7.
      let i2 : a2 ≡ a1 + 1 = e2.2 in
      let n1 = e1.1 in
      let n2 = e2.2 ∙ ap (λ i. i + 1) n1 in
      let n3 = e3.1 ∙ ap (λ i. i + 1) n2 in
      let n4 = e4.2 ∙ ap (λ i. i + 1) n3 in
      let n5 = e5.1 ∙ ap (λ i. i + 1) n4 in
      let n6 = e6.1 ∙ ap (λ i. i + 1) n5 in
      let n7 = e7.1 ∙ ap (λ i. i + 1) n6 in
      let r : BindingAt ts x y end (at + 1 + 1) = record {
        places = (vulkan, separator, binder, p3, e2.0, p5, e4.0, p7, p8);
        vulkan = v;
        of = d;
        name = b;
        begin = e1.0;
        binding = subst (λ i. Stands ts i (k.Number x) e2.0) n1 e2.1;
        comma = subst (λ i. Stands ts i (k.Mark m.Comma) p5) n2 e3.0;
        set = subst (λ i. Stands ts i (k.Number y) e4.0) n3 e4.1;
        close = subst (λ i. Stands ts i (k.Mark m.CloseParen) p7) n4 e5.0;
        bracket = subst (λ i. Stands ts i (k.Mark m.CloseBracket) p8) n5 e6.0;
        last = subst (λ i. Stands ts i (k.Mark m.CloseBracket) end) n6 e7.0;
      } in
      (attributed (span begin end) (n.Binding x y), subst (λ i. AttributeAt ts (attributed (span begin end) (n.Binding x y)) at i) (sym n7) (t.binding o o2 r), refl))))))))

  post_binding : (begin q : Place) (at seen : ℕ) → Stands ts at (k.Mark m.OpenBracket) begin → Stands ts (at + 1) (k.Mark m.OpenBracket) q →
      Post (IsOne at) (binding limits targets given begin ts (at + 1 + 1) seen)
  unfolding binding IsSpelled
  post_binding begin q at seen o o2 = post_bind ts (IsSpelled ts (codes "vk") (at + 1 + 1)) (IsOne at) (spelled (codes "vk")) _ (at + 1 + 1) seen (post_spelled ts (codes "vk") (at + 1 + 1) seen)
      (λ p a1 s1 v. post_bind ts (IsMarkAt ts m.DoubleColon a1) (IsOne at) (expect m.DoubleColon) _ a1 s1 (post_expect ts m.DoubleColon a1 s1)
      (λ r a2 s2 d. let n2 = d.1 ∙ ap (λ i. i + 1) v.1 in
      subst (λ i. Post (IsOne at) (next (binding_at limits targets given begin p) ts i s2)) (sym n2)
      (post_next ts (IsOne at) (binding_at limits targets given begin p) (at + 1 + 1 + 1 + 1) s2
      (λ x e. go p r v.0 (subst (λ i. Stands ts i (k.Mark m.DoubleColon) r) v.1 d.0) x e))))
    where
      test : (p r : Place) → SpelledStands ts (at + 1 + 1) p (codes "vk") → Stands ts (at + 1 + 1 + 1) (k.Mark m.DoubleColon) r → (tok : Lexed) → first (drop (at + 1 + 1 + 1 + 1) ts) ≡ Some tok →
          tok.kind ≡ k.Name → (b : Bool) → bytes_eq (codes "binding") tok.bytes ≡ b → PostChoice ts (IsOne at) (at + 1 + 1 + 1 + 1) (Some tok)
          (if b then if_obeyed (limits.free || admits targets given.1 (Some known.Binding) (span p tok.place)) (span p tok.place) (Take (binding_rest limits targets given begin (span p tok.place))) else Refuse)
      test p r v d tok e c true h = post_obeyed ts (IsOne at) (at + 1 + 1 + 1 + 1) (Some tok) (limits.free || admits targets given.1 (Some known.Binding) (span p tok.place)) (span p tok.place)
          (Take (binding_rest limits targets given begin (span p tok.place)))
          (λ s3. post_binding_rest begin (span p tok.place) p r tok.place q at s3 o o2 v d (spelled_stands ts (at + 1 + 1 + 1 + 1) tok (codes "binding") e c h))
      test p r v d tok e c false h = tt

      by : (p r : Place) → SpelledStands ts (at + 1 + 1) p (codes "vk") → Stands ts (at + 1 + 1 + 1) (k.Mark m.DoubleColon) r → (tok : Lexed) → first (drop (at + 1 + 1 + 1 + 1) ts) ≡ Some tok →
          (kind : Kind) → tok.kind ≡ kind → PostChoice ts (IsOne at) (at + 1 + 1 + 1 + 1) (Some tok) (binding_by limits targets given begin p tok kind)
      by p r v d tok e k.Name c = test p r v d tok e c (bytes_eq (codes "binding") tok.bytes) refl
      by p r v d tok e (k.Word word) c = tt
      by p r v d tok e (k.Number x) c = tt
      by p r v d tok e k.String c = tt
      by p r v d tok e (k.Mark mark) c = tt

      go : (p r : Place) → SpelledStands ts (at + 1 + 1) p (codes "vk") → Stands ts (at + 1 + 1 + 1) (k.Mark m.DoubleColon) r → (x : Option Lexed) → first (drop (at + 1 + 1 + 1 + 1) ts) ≡ x →
          PostChoice ts (IsOne at) (at + 1 + 1 + 1 + 1) x (binding_at limits targets given begin p x)
      go p r v d (Some tok) e = by p r v d tok e tok.kind refl
      go p r v d None e = tt

  post_attribute_by : (begin : Place) (at : ℕ) → Stands ts at (k.Mark m.OpenBracket) begin → (tok : Lexed) → first (drop (at + 1) ts) ≡ Some tok → (kind : Kind) → tok.kind ≡ kind →
      PostChoice ts (IsOne at) (at + 1) (Some tok) (attribute_by limits targets given begin tok kind)
  post_attribute_by begin at o tok e k.Name d = post_obeyed ts (IsOne at) (at + 1) (Some tok) (limits.free || admits targets given.1 (attribute_of tok.bytes) tok.place) tok.place
      (if_short limits tok (Take (named limits targets given begin (identifier tok) (attribute_of tok.bytes))))
      (post_short ts limits (IsOne at) (at + 1) tok (Take (named limits targets given begin (identifier tok) (attribute_of tok.bytes)))
      (λ s1. post_named begin (identifier tok) (attribute_of tok.bytes) at s1 o (name_stands ts (at + 1) tok e d)))
  post_attribute_by begin at o tok e (k.Mark m.OpenBracket) d = λ s1. post_binding begin tok.place at s1 o (stands ts (at + 1) tok (k.Mark m.OpenBracket) e d)
  post_attribute_by begin at o tok e (k.Word word) d = tt
  post_attribute_by begin at o tok e (k.Number x) d = tt
  post_attribute_by begin at o tok e k.String d = tt
  post_attribute_by begin at o tok e (k.Mark _) d = tt

  post_attribute : (at seen : ℕ) → Post (IsOne at) (attribute limits targets given ts at seen)
  unfolding attribute
  post_attribute at seen = post_bind ts (IsMarkAt ts m.OpenBracket at) (IsOne at) (expect m.OpenBracket) _ at seen (post_expect ts m.OpenBracket at seen)
      (λ p mid s1 o. subst (λ i. Post (IsOne at) (next (attribute_at limits targets given p) ts i s1)) (sym o.1)
      (post_next ts (IsOne at) (attribute_at limits targets given p) (at + 1) s1 (λ x e. go p o.0 x e)))
    where
      go : (p : Place) → Stands ts at (k.Mark m.OpenBracket) p → (x : Option Lexed) → first (drop (at + 1) ts) ≡ x → PostChoice ts (IsOne at) (at + 1) x (attribute_at limits targets given p x)
      go p o (Some tok) e = post_attribute_by p at o tok e tok.kind refl
      go p o None e = tt

pub post_attributes : (ts : List Lexed) (limits : Limits) (targets : List Target) (at seen : ℕ) → Post (λ a to. AttributesAt ts [] a.0 at to) (attributes limits targets ts at seen)
unfolding attributes IsOne
post_attributes ts limits targets at seen =
    let goes = sees m.OpenBracket in
    let R : Given → Given → ℕ → ℕ → Type 0 = λ a c from to. IsNot ts m.OpenBracket to → AttributesAt ts a.0 c.0 from to in
    post_weaken (λ (c : Given) to. R ([], []) c at to × (goes (first (drop to ts)) ≡ false)) (λ (c : Given) to. AttributesAt ts [] c.0 at to) (λ c to h. h.0 (record { is = h.1 }))
    (turns goes (attribute limits targets) limits.turns ([], []) ts at seen)
    (post_both (λ (c : Given) to. R ([], []) c at to) (λ (c : Given) to. goes (first (drop to ts)) ≡ false) (turns goes (attribute limits targets) limits.turns ([], []) ts at seen)
    (post_turns ts R (λ (a b : Given) from to. IsOne ts limits targets a from b to) goes (attribute limits targets) (λ a at q. t.end q)
    (λ a b c from mid to o r q. t.more o.1 (subst (λ list. AttributesAt ts list c.0 mid to) o.2 (r q)))
    (λ a from s e. post_attribute ts limits targets a from s) limits.turns ([], []) at seen)
    (post_over ts goes (attribute limits targets) limits.turns ([], []) at seen))
