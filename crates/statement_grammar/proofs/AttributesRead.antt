-- Attributes: what is spelled is read, but where a rule on attributes or a limit is passed.
use Rattle.std.proofs.Common.{Bool, true, false, not, ◌≡◌, ℕ, zero, suc, ◌+◌, ◌||◌, if◌then◌else◌, List, [], ◌∷◌, ◌++◌, codes, drop, Option, Some, None, refl, sym, ◌∙◌, ap, subst}
use Rattle.std.specs.Str.{bytes_eq}
use Rattle.std.proofs.lemmas.Slice.Eq.{bytes_eq-Decides}
use Rattle.slang_names.specs.declared.places.Place.{Place}
use Rattle.slang_names.specs.declared.numbers.Number.{Number}
use Rattle.slang_tree.specs.declared.types.Identifier.{Identifier}
use Rattle.slang_tree.specs.declared.statements.Attribute.{Attribute}
use Rattle.slang_tree.specs.declared.statements.AttributeNode.TheVariants as n
use Rattle.slang_tree.specs.declared.statements.Literal.{Literal}
use Rattle.slang_tree.specs.declared.statements.Literal.TheVariants as lit
use Rattle.slang_tokens.specs.declared.tokens.Kind.{Kind}
use Rattle.slang_tokens.specs.declared.tokens.Kind.TheVariants as k
use Rattle.slang_tokens.specs.declared.tokens.Mark.{Mark}
use Rattle.slang_tokens.specs.declared.tokens.Mark.TheVariants as m
use Rattle.slang_reading.specs.Lexed.{Lexed}
use Rattle.slang_reading.specs.Reading.{Parser, Choice, Leave, Take, Refuse, Pass, first, pure, next, turns}
use Rattle.slang_reading.specs.Kinds.{sees, span}
use Rattle.slang_reading.proofs.Exact.{Reads, ReadsChoice, reads_pure, reads_bind, reads_next, reads_turns_end, reads_turns_more, reads_turns_full}
use Rattle.slang_grammar.specs.Standing.{Stands, NameStands, IsNot}
use Rattle.slang_grammar.specs.Descent.{Limits, expect, identifier, if_short}
use Rattle.slang_grammar.proofs.Shared.{reads_expect, reads_short, not_there, is_there}
use Rattle.statement_grammar.specs.declared.attributes.KnownAttribute.{KnownAttribute}
use Rattle.statement_grammar.specs.declared.attributes.KnownAttribute.TheVariants as known
use Rattle.statement_grammar.specs.declared.attributes.Target.{Target}
use Rattle.statement_grammar.specs.AttributeTables.{attribute_of}
use Rattle.statement_grammar.specs.Attributes as t
use Rattle.statement_grammar.specs.Attributes.{attributed, unquoted, SpelledStands, LiteralAt, MoreLiteralsAt, AttributeRestAt, BindingAt, AttributeAt, AttributesAt}
use Rattle.statement_grammar.specs.AttributeRules.{Want, wants_of}
use Rattle.statement_grammar.specs.AttributesDescent.{Given, if_obeyed, Literals, Noted, wanted, later, wants_more, literal_at, literal, comma_by, literal_more, close_by, close, literals, rest_by, attribute_rest, admits, noted, spelled_at, spelled, number_at, number, named, binding_rest, binding_at, binding, attribute_at, attribute, attributes}

module _ (E : Type 0) (e : E) (ts : List Lexed) (limits : Limits) where
  pub reads_obeyed : {A : Type 0} (at : ℕ) (a : A) (to : ℕ) (x : Option Lexed) (b : Bool) (p : Place) (c : Choice A) → ReadsChoice E ts at a to x c → ReadsChoice E ts at a to x (if_obeyed b p c)
  reads_obeyed at a to x true p c h = h
  reads_obeyed at a to x false p (Leave q) h = e
  reads_obeyed at a to (Some t) false p (Take q) h = e
  reads_obeyed at a to None false p (Take q) h = absurd h
  reads_obeyed at a to x false p Refuse h = h
  reads_obeyed at a to x false p (Pass other there) h = h

  module _ (place : Place) where
    reads_literal : {x : Literal} {at : ℕ} → LiteralAt ts x at → (r : Literals) (seen : ℕ) → Reads E (literal limits place r) ts at seen (r.0 ++ x ∷ [], later r.1) (at + 1)
    unfolding literal
    reads_literal {x = x} {at = at} (t.number {p = p} {v = v} s) r seen = let a : Literals = (r.0 ++ x ∷ [], later r.1) in
        reads_next E ts (literal_at limits place r) at seen a (at + 1) (Some (record { kind = k.Number v; place = p; bytes = s.bytes })) (if_obeyed (limits.free || wanted r.1 x) place (Take (pure a))) s.is refl
        (reads_obeyed at a (at + 1) (Some (record { kind = k.Number v; place = p; bytes = s.bytes })) (limits.free || wanted r.1 x) place (Take (pure a)) (λ s1. reads_pure E ts a (at + 1) s1))
    reads_literal {x = x} {at = at} (t.string {p = p} {bytes = bytes} s) r seen = let a : Literals = (r.0 ++ x ∷ [], later r.1) in
        reads_next E ts (literal_at limits place r) at seen a (at + 1) (Some (record { kind = k.String; place = p; bytes = bytes })) (if_obeyed (limits.free || wanted r.1 x) place (Take (pure a))) s.is refl
        (reads_obeyed at a (at + 1) (Some (record { kind = k.String; place = p; bytes = bytes })) (limits.free || wanted r.1 x) place (Take (pure a)) (λ s1. reads_pure E ts a (at + 1) s1))

    -- what is wanted behind them
    left : {xs ys : List Literal} {from to : ℕ} → MoreLiteralsAt ts xs ys from to → List Want → List Want
    left t.end wants = wants
    left (t.more s l r) wants = left r (later wants)

    reads_more : {xs ys : List Literal} {from to : ℕ} (r : MoreLiteralsAt ts xs ys from to) → IsNot ts m.Comma to → (count : ℕ) (wants : List Want) (seen : ℕ) →
        Reads E (turns (sees m.Comma) (literal_more limits place) count (xs, wants)) ts from seen (ys, left r wants) to
    unfolding left literal_more
    reads_more {xs = xs} {from = from} t.end q count wants seen = reads_turns_end E ts (sees m.Comma) (literal_more limits place) count (xs, wants) from seen q.is
    reads_more {xs = xs} {ys = ys} {from = from} {to = to} (t.more {p = p} s l r) q zero wants seen =
        reads_turns_full E ts (sees m.Comma) (literal_more limits place) (xs, wants) (ys, left r (later wants)) from seen to (is_there ts m.Comma from p s) e
    reads_more {xs = xs} {ys = ys} {from = from} {to = to} (t.more {p = p} {x = x} s l r) q (suc count) wants seen =
        let a : Literals = (xs, wants) in
        let b : Literals = (xs ++ x ∷ [], later wants) in
        reads_turns_more E ts (sees m.Comma) (literal_more limits place) count a b (ys, left r (later wants)) from seen (from + 1 + 1) to (is_there ts m.Comma from p s)
        (λ s1. reads_next E ts _ from s1 b (from + 1 + 1) (Some (record { kind = k.Mark m.Comma; place = p; bytes = s.bytes })) (comma_by limits place a true) s.is refl
        (reads_obeyed from b (from + 1 + 1) (Some (record { kind = k.Mark m.Comma; place = p; bytes = s.bytes })) (limits.free || wants_more wants) place (Take (literal limits place a)) (λ s2. reads_literal l a s2)))
        (λ s1. reads_more r q count (later wants) s1)

    reads_close : (r : Literals) (p : Place) (at seen : ℕ) → Stands ts at (k.Mark m.CloseParen) p → Reads E (close limits place r) ts at seen r.0 (at + 1)
    unfolding close
    reads_close r p at seen s = reads_next E ts _ at seen r.0 (at + 1) (Some (record { kind = k.Mark m.CloseParen; place = p; bytes = s.bytes })) (close_by limits place r true) s.is refl
        (reads_obeyed at r.0 (at + 1) (Some (record { kind = k.Mark m.CloseParen; place = p; bytes = s.bytes })) (limits.free || not (wants_more r.1)) place (Take (pure r.0)) (λ s1. reads_pure E ts r.0 (at + 1) s1))

    reads_rest : {list : List Literal} {end : Place} {from to : ℕ} → AttributeRestAt ts list end from to → (wants : List Want) (seen : ℕ) →
        Reads E (attribute_rest limits place wants) ts from seen (list, end) to
    unfolding attribute_rest literals
    reads_rest {from = from} (t.no_literals {end = end} s) wants seen = let a : List Literal × Place = ([], end) in
        reads_next E ts _ from seen a (from + 1) (Some (record { kind = k.Mark m.CloseBracket; place = end; bytes = s.bytes })) (if_obeyed (limits.free || not (wants_more wants)) place (Take (pure a))) s.is refl
        (reads_obeyed from a (from + 1) (Some (record { kind = k.Mark m.CloseBracket; place = end; bytes = s.bytes })) (limits.free || not (wants_more wants)) place (Take (pure a)) (λ s1. reads_pure E ts a (from + 1) s1))
    reads_rest {list = list} {end = end} {from = from} (t.literals {at = at} {p = p} {q = q} {x = x} s l r c d) wants seen = let a : List Literal × Place = (list, end) in
        let b : Literals = (x ∷ [], later wants) in
        let z : Literals = (list, left r (later wants)) in
        reads_next E ts _ from seen a (at + 1 + 1) (Some (record { kind = k.Mark m.OpenParen; place = p; bytes = s.bytes })) (if_obeyed (limits.free || wants_more wants) place (Take (literals limits place wants))) s.is refl
        (reads_obeyed from a (at + 1 + 1) (Some (record { kind = k.Mark m.OpenParen; place = p; bytes = s.bytes })) (limits.free || wants_more wants) place (Take (literals limits place wants))
        (λ s1. reads_bind E ts (literal limits place ([], wants)) _ (from + 1) s1 (from + 1 + 1) (at + 1 + 1) b a (reads_literal l ([], wants) s1)
        (λ s2. reads_bind E ts (turns (sees m.Comma) (literal_more limits place) limits.turns b) _ (from + 1 + 1) s2 at (at + 1 + 1) z a
        (reads_more r (not_there ts m.Comma at (k.Mark m.CloseParen) q c refl) limits.turns (later wants) s2)
        (λ s3. reads_bind E ts (close limits place z) _ at s3 (at + 1) (at + 1 + 1) list a (reads_close z q at s3 c)
        (λ s4. reads_bind E ts (expect m.CloseBracket) _ (at + 1) s4 (at + 1 + 1) (at + 1 + 1) end a (reads_expect E ts m.CloseBracket end (at + 1) s4 d)
        (λ s5. reads_pure E ts a (at + 1 + 1) s5))))))

  reads_number : (v : Number) (p : Place) (at seen : ℕ) → Stands ts at (k.Number v) p → Reads E number ts at seen v (at + 1)
  unfolding number
  reads_number v p at seen s = reads_next E ts number_at at seen v (at + 1) (Some (record { kind = k.Number v; place = p; bytes = s.bytes })) (Take (pure v)) s.is refl (λ s1. reads_pure E ts v (at + 1) s1)

  spells_itself : (bytes : List ℕ) → bytes_eq bytes bytes ≡ true
  spells_itself bytes = (bytes_eq-Decides bytes bytes).1 refl

  reads_spelled : (bytes : List ℕ) (p : Place) (at seen : ℕ) → SpelledStands ts at p bytes → Reads E (spelled bytes) ts at seen p (at + 1)
  unfolding spelled
  reads_spelled bytes p at seen s = reads_next E ts (spelled_at bytes) at seen p (at + 1) (Some (record { kind = k.Name; place = p; bytes = bytes })) (Take (pure p)) s.is
      (ap (λ b. if b then Take (pure p) else Refuse) (spells_itself bytes)) (λ s1. reads_pure E ts p (at + 1) s1)

  -- what is noted of an attribute
  note : {x : Attribute} {from to : ℕ} → AttributeAt ts x from to → Noted → Noted
  note (t.named {id = id} o i r) list = noted list (attribute_of id.name) id.place
  note (t.binding o q b) list = noted list (Some known.Binding) (span b.places.0 b.places.2)

  module _ (targets : List Target) where
    reads_attribute : {x : Attribute} {from to : ℕ} (r : AttributeAt ts x from to) (given : Given) (seen : ℕ) → Reads E (attribute limits targets given) ts from seen (given.0 ++ x ∷ [], note r given.1) to
    unfolding attribute named binding binding_rest note
    reads_attribute {x = x} {from = from} {to = to} (t.named {p = p} {end = end} {id = id} {list = list} o i r) given seen =
        let a : Given = (given.0 ++ x ∷ [], noted given.1 (attribute_of id.name) id.place) in
        let tok : Lexed = record { kind = k.Name; place = id.place; bytes = id.name } in
        let rest = named limits targets given p id (attribute_of id.name) in
        reads_bind E ts (expect m.OpenBracket) _ from seen (from + 1) to p a (reads_expect E ts m.OpenBracket p from seen o)
        (λ s1. reads_next E ts (attribute_at limits targets given p) (from + 1) s1 a to (Some tok)
        (if_obeyed (limits.free || admits targets given.1 (attribute_of id.name) id.place) id.place (if_short limits tok (Take rest))) i.is refl
        (reads_obeyed (from + 1) a to (Some tok) (limits.free || admits targets given.1 (attribute_of id.name) id.place) id.place (if_short limits tok (Take rest))
        (reads_short E ts e limits (from + 1) a to tok (Take rest)
        (λ s2. reads_bind E ts (attribute_rest limits id.place (wants_of (attribute_of id.name))) _ (from + 1 + 1) s2 to to (list, end) a (reads_rest id.place r (wants_of (attribute_of id.name)) s2)
        (λ s3. reads_pure E ts a to s3)))))
    reads_attribute {x = x} {from = from} {to = to} (t.binding {p = p} {q = q} {end = end} {b = v} {s = w} o q2 b) given seen =
        let vulkan = b.places.0 in
        let there : Place = span b.places.0 b.places.2 in
        let a : Given = (given.0 ++ x ∷ [], noted given.1 (Some known.Binding) there) in
        let i2 = from + 1 + 1 in
        let i4 = i2 + 1 + 1 in
        reads_bind E ts (expect m.OpenBracket) _ from seen (from + 1) to p a (reads_expect E ts m.OpenBracket p from seen o)
        (λ s1. reads_next E ts (attribute_at limits targets given p) (from + 1) s1 a to (Some (record { kind = k.Mark m.OpenBracket; place = q; bytes = q2.bytes })) (Take (binding limits targets given p)) q2.is refl
        (λ s2. reads_bind E ts (spelled (codes "vk")) _ i2 s2 (i2 + 1) to vulkan a (reads_spelled (codes "vk") vulkan i2 s2 b.vulkan)
        (λ s3. reads_bind E ts (expect m.DoubleColon) _ (i2 + 1) s3 i4 to b.places.1 a (reads_expect E ts m.DoubleColon b.places.1 (i2 + 1) s3 b.of)
        (λ s4. reads_next E ts (binding_at limits targets given p vulkan) i4 s4 a to (Some (record { kind = k.Name; place = b.places.2; bytes = codes "binding" }))
        (if_obeyed (limits.free || admits targets given.1 (Some known.Binding) there) there (Take (binding_rest limits targets given p there))) b.name.is refl
        (reads_obeyed i4 a to (Some (record { kind = k.Name; place = b.places.2; bytes = codes "binding" })) (limits.free || admits targets given.1 (Some known.Binding) there) there (Take (binding_rest limits targets given p there))
        (λ s5. reads_bind E ts (expect m.OpenParen) _ (i4 + 1) s5 (i4 + 1 + 1) to b.places.3 a (reads_expect E ts m.OpenParen b.places.3 (i4 + 1) s5 b.begin)
        (λ s6. reads_bind E ts number _ (i4 + 1 + 1) s6 (i4 + 1 + 1 + 1) to v a (reads_number v b.places.4 (i4 + 1 + 1) s6 b.binding)
        (λ s7. reads_bind E ts (expect m.Comma) _ (i4 + 1 + 1 + 1) s7 (i4 + 1 + 1 + 1 + 1) to b.places.5 a (reads_expect E ts m.Comma b.places.5 (i4 + 1 + 1 + 1) s7 b.comma)
        (λ s8. reads_bind E ts number _ (i4 + 1 + 1 + 1 + 1) s8 (i4 + 1 + 1 + 1 + 1 + 1) to w a (reads_number w b.places.6 (i4 + 1 + 1 + 1 + 1) s8 b.set)
        (λ s9. reads_bind E ts (expect m.CloseParen) _ (i4 + 1 + 1 + 1 + 1 + 1) s9 (i4 + 1 + 1 + 1 + 1 + 1 + 1) to b.places.7 a (reads_expect E ts m.CloseParen b.places.7 (i4 + 1 + 1 + 1 + 1 + 1) s9 b.close)
        (λ s10. reads_bind E ts (expect m.CloseBracket) _ (i4 + 1 + 1 + 1 + 1 + 1 + 1) s10 (i4 + 1 + 1 + 1 + 1 + 1 + 1 + 1) to b.places.8 a (reads_expect E ts m.CloseBracket b.places.8 (i4 + 1 + 1 + 1 + 1 + 1 + 1) s10 b.bracket)
        (λ s11. reads_bind E ts (expect m.CloseBracket) _ (i4 + 1 + 1 + 1 + 1 + 1 + 1 + 1) s11 to to end a (reads_expect E ts m.CloseBracket end (i4 + 1 + 1 + 1 + 1 + 1 + 1 + 1) s11 b.last)
        (λ s12. reads_pure E ts a to s12)))))))))))))

    -- what is noted of attributes
    pub notes : {xs ys : List Attribute} {from to : ℕ} → AttributesAt ts xs ys from to → Noted → Noted
    notes (t.end q) list = list
    notes (t.more r s) list = notes s (note r list)

    reads_attributes_from : {xs ys : List Attribute} {from to : ℕ} (r : AttributesAt ts xs ys from to) (count : ℕ) (list : Noted) (seen : ℕ) →
        Reads E (turns (sees m.OpenBracket) (attribute limits targets) count (xs, list)) ts from seen (ys, notes r list) to
    unfolding notes
    reads_attributes_from {xs = xs} {from = from} (t.end q) count list seen = reads_turns_end E ts (sees m.OpenBracket) (attribute limits targets) count (xs, list) from seen q.is
    reads_attributes_from {xs = xs} {ys = ys} {from = from} {to = to} (t.more r s) zero list seen =
        reads_turns_full E ts (sees m.OpenBracket) (attribute limits targets) (xs, list) (ys, notes s (note r list)) from seen to (begins r) e
      where
        begins : {x : Attribute} {from to : ℕ} → AttributeAt ts x from to → sees m.OpenBracket (first (drop from ts)) ≡ true
        begins {from = from} (t.named {p = p} o i r) = is_there ts m.OpenBracket from p o
        begins {from = from} (t.binding {p = p} o q b) = is_there ts m.OpenBracket from p o
    reads_attributes_from {xs = xs} {ys = ys} {from = from} {to = to} (t.more {mid = mid} {x = x} r s) (suc count) list seen =
        reads_turns_more E ts (sees m.OpenBracket) (attribute limits targets) count (xs, list) (xs ++ x ∷ [], note r list) (ys, notes s (note r list)) from seen mid to (begins r)
        (λ s1. reads_attribute r (xs, list) s1) (λ s1. reads_attributes_from s count (note r list) s1)
      where
        begins : {x : Attribute} {from to : ℕ} → AttributeAt ts x from to → sees m.OpenBracket (first (drop from ts)) ≡ true
        begins {from = from} (t.named {p = p} o i r) = is_there ts m.OpenBracket from p o
        begins {from = from} (t.binding {p = p} o q b) = is_there ts m.OpenBracket from p o

    pub reads_attributes : {ys : List Attribute} {from to : ℕ} (r : AttributesAt ts [] ys from to) (seen : ℕ) → Reads E (attributes limits targets) ts from seen (ys, notes r []) to
    unfolding attributes
    reads_attributes r seen = reads_attributes_from r limits.turns [] seen
