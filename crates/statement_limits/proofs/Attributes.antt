-- Attributes before a thing: what they break first is told.
use Rattle.std.proofs.Common.{Bool, true, false, not, ◌≡◌, ℕ, zero, suc, ◌+◌, ◌≤◌, ◌||◌, ◌&&◌, ◌==◌, List, [], ◌∷◌, ◌++◌, map, drop, length, Option, Some, None, refl, sym, ◌∙◌, ap, subst, arith, codes, if◌then◌else◌}
use Rattle.std.specs.Prelude.{nat_le}
use Rattle.std.specs.List.{list_all}
use Rattle.std.proofs.lemmas.Slice.Eq.{bytes_eq-Decides}
use Rattle.slang_names.specs.declared.places.Place.{Place}
use Rattle.slang_names.specs.declared.codes.ModuleCode.TheVariants as code
use Rattle.slang_names.specs.declared.numbers.Number.{Number}
use Rattle.slang_tree.specs.declared.statements.Attribute.{Attribute}
use Rattle.slang_tree.specs.declared.statements.Literal.{Literal}
use Rattle.slang_tokens.specs.declared.tokens.Kind.TheVariants as k
use Rattle.slang_tokens.specs.declared.tokens.Mark.TheVariants as m
use Rattle.slang_reading.specs.Lexed.{Lexed}
use Rattle.slang_reading.specs.Reading.{Parser, Leave, Take, Refuse, first, place_of, if_fits, pure, turns}
use Rattle.slang_reading.specs.Kinds.{sees, span}
use Rattle.slang_reading.proofs.Exact.{Reads, reads_pure, reads_bind, reads_next}
use Rattle.slang_grammar.specs.Standing.{Stands, IsNot}
use Rattle.slang_grammar.specs.Descent.{Limits, expect, is_short, if_short}
use Rattle.slang_grammar.proofs.Shared.{reads_expect, not_there, is_there}
use Rattle.statement_grammar.specs.declared.attributes.KnownAttribute.{KnownAttribute}
use Rattle.statement_grammar.specs.declared.attributes.KnownAttribute.TheVariants as known
use Rattle.statement_grammar.specs.declared.attributes.Target.{Target}
use Rattle.statement_grammar.specs.AttributeTables.{attribute_of, may_stand, attribute_code}
use Rattle.statement_grammar.specs.Attributes as t
use Rattle.statement_grammar.specs.Attributes.{LiteralAt, MoreLiteralsAt, AttributeRestAt, AttributeAt, AttributesAt, SpelledStands}
use Rattle.statement_grammar.specs.AttributeRules.{Want, wants_of, known_of}
use Rattle.statement_grammar.specs.AttributesDescent.{Given, Noted, if_obeyed, suited, if_suits, misfit, Literals, wanted, later, wants_more, literal_at, literal, comma_by, literal_more, close_by, close, literals, attribute_rest, has, possible, noted, admits, spelled_at, spelled, number_at, number, named, binding_rest, binding_at, binding, attribute_at, attribute, attributes}
use Rattle.statement_fits.proofs.Moves.{attribute_moves}
use Rattle.expression_limits.specs.Breaks.{Break, unless}
use Rattle.expression_limits.proofs.Telling.{Tells, TellsChoice, tells_reads, short_is, tells_bind, tells_then, tells_last, tells_next, tells_turns_end, tells_turns_more}
use Rattle.expression_limits.proofs.Moves.{stands_within}
use Rattle.statement_limits.specs.Rules.{disobeyed, unless_obeyed, is_among, may_all_stand, may_follow, with_known, suits}
use Rattle.statement_limits.proofs.Order.{one_break}
use Rattle.statement_limits.specs.Attributes.{more_literals_breaks, wanted_behind, attribute_rest_breaks, attribute_place, attribute_breaks, attributes_breaks, misfit_breaks}

-- ---- what is noted of attributes

names_of : Noted → List KnownAttribute
names_of list = map (λ x. x.0) list

has_is : (known : KnownAttribute) (list : Noted) → has known list ≡ is_among known (names_of list)
unfolding names_of
has_is known [] = refl
has_is known (x ∷ xs) = ap (λ b. (attribute_code known == attribute_code x.0) || b) (has_is known xs)

all_is : (t : Target) (list : Noted) → list_all (λ x. may_stand x.0 t) list ≡ list_all (λ x. may_stand x t) (names_of list)
unfolding names_of
all_is t [] = refl
all_is t (x ∷ xs) = ap (λ b. may_stand x.0 t && b) (all_is t xs)

possible_is : (targets : List Target) (list : Noted) → possible targets list ≡ may_all_stand targets (names_of list)
possible_is [] list = refl
possible_is (t ∷ ts) list = ap (λ b. b || possible ts list) (all_is t list) ∙ ap (λ b. list_all (λ x. may_stand x t) (names_of list) || b) (possible_is ts list)

names_more : (list : Noted) (known : KnownAttribute) (place : Place) → names_of (list ++ (known, place) ∷ []) ≡ names_of list ++ known ∷ []
unfolding names_of
names_more [] known place = refl
names_more (x ∷ xs) known place = ap (λ l. x.0 ∷ l) (names_more xs known place)

names_noted : (list : Noted) (x : Option KnownAttribute) (place : Place) → names_of (noted list x place) ≡ with_known (names_of list) x
names_noted list (Some known) place = names_more list known place
names_noted list None place = refl

admits_is : (targets : List Target) (list : Noted) (x : Option KnownAttribute) (place : Place) → admits targets list x place ≡ may_follow targets (names_of list) x
admits_is targets list None place = refl
admits_is targets list (Some known) place =
    ap (λ b. not b && possible targets (list ++ (known, place) ∷ [])) (has_is known list)
    ∙ ap (λ b. not (is_among known (names_of list)) && b) (possible_is targets (list ++ (known, place) ∷ []) ∙ ap (may_all_stand targets) (names_more list known place))

-- the rest behind one more
noted_more : (list rest : Noted) (x : Option KnownAttribute) (place : Place) → noted list x place ++ rest ≡ list ++ (noted [] x place ++ rest)
noted_more list rest (Some known) place = go list
  where
    go : (list : Noted) → (list ++ (known, place) ∷ []) ++ rest ≡ list ++ ((known, place) ∷ rest)
    go [] = refl
    go (y ∷ ys) = ap (λ l. y ∷ l) (go ys)
noted_more list rest None place = refl

noted_end : (list : Noted) → list ++ [] ≡ list
noted_end [] = refl
noted_end (y ∷ ys) = ap (λ l. y ∷ l) (noted_end ys)

-- ---- rules that are broken

differ : {A : Type 0} → true ≡ false → A
differ e = absurd (clash e)
  where
    clash : true ≡ false → ⊥
    clash e = cc

module _ (ts : List Lexed) where
  -- those that are known, and where their names lie
  abbrev pub noted_in : {xs ys : List Attribute} {from to : ℕ} → AttributesAt ts xs ys from to → Noted
  noted_in (t.end q) = []
  noted_in (t.more {x = x} r s) = noted [] (known_of x.node) (attribute_place ts r) ++ noted_in s

  -- a token that is taken where the rule is obeyed
  pub tells_obeyed : {A : Type 0} {bs : List Break} (at : ℕ) (a : A) (to : ℕ) (t : Lexed) (test claim : Bool) (place : Place) (p : Parser A) → test ≡ claim →
      ((seen : ℕ) → Tells bs p ts (at + 1) seen a to) → TellsChoice ts (unless_obeyed claim place at ++ bs) at a to (Some t) (if_obeyed test place (Take p))
  tells_obeyed at a to t true true place p q h = h
  tells_obeyed at a to t false false place p q h = (refl, refl)
  tells_obeyed at a to t true false place p q h = differ q
  tells_obeyed at a to t false true place p q h = differ (sym q)

  -- and nothing is broken behind it
  pub tells_obeyed_last : {A : Type 0} (at : ℕ) (a : A) (to : ℕ) (t : Lexed) (test claim : Bool) (place : Place) (p : Parser A) → test ≡ claim →
      ((seen : ℕ) → Reads ⊥ p ts (at + 1) seen a to) → TellsChoice ts (unless_obeyed claim place at) at a to (Some t) (if_obeyed test place (Take p))
  tells_obeyed_last at a to t true true place p q h = λ seen. tells_reads p ts (at + 1) seen a to (h seen)
  tells_obeyed_last at a to t false false place p q h = (refl, refl)
  tells_obeyed_last at a to t true false place p q h = differ q
  tells_obeyed_last at a to t false true place p q h = differ (sym q)

  -- a name that is short enough, with a rule on it
  tells_obeyed_name : {A : Type 0} {bs : List Break} (at : ℕ) (a : A) (to : ℕ) (t : Lexed) (test claim fits short : Bool) (place : Place) (p : Parser A) → first (drop at ts) ≡ Some t → test ≡ claim → fits ≡ short →
      ((seen : ℕ) → Tells bs p ts (at + 1) seen a to) →
      TellsChoice ts (unless ts short code.TooLong at ++ (unless_obeyed claim place at ++ bs)) at a to (Some t) (if_obeyed test place (if_fits fits code.TooLong (Some t) (Take p)))
  tells_obeyed_name at a to t true true true true place p e q r h = h
  tells_obeyed_name at a to t false false true true place p e q r h = (refl, refl)
  tells_obeyed_name at a to t true claim false false place p e q r h = (refl, ap place_of (sym e))
  tells_obeyed_name at a to t false claim false false place p e q r h = (refl, ap place_of (sym e))
  tells_obeyed_name at a to t true false true true place p e q r h = differ q
  tells_obeyed_name at a to t false true true true place p e q r h = differ (sym q)
  tells_obeyed_name at a to t test claim true false place p e q r h = differ r
  tells_obeyed_name at a to t test claim false true place p e q r h = differ (sym r)

  module _ (limits : Limits) (free : limits.free ≡ false) where
    rule_is : (b : Bool) → (limits.free || b) ≡ b
    rule_is b = ap (λ c. c || b) free

    -- ---- literals

    module _ (place : Place) where
      tells_literal : {x : Literal} {at : ℕ} → LiteralAt ts x at → (r : Literals) (seen : ℕ) → Tells (unless_obeyed (wanted r.1 x) place at) (literal limits place r) ts at seen (r.0 ++ x ∷ [], later r.1) (at + 1)
      unfolding literal
      tells_literal {x = x} {at = at} (t.number {p = p} {v = v} s) r seen =
          let a : Literals = (r.0 ++ x ∷ [], later r.1) in
          let tok : Lexed = record { kind = k.Number v; place = p; bytes = s.bytes } in
          tells_next ts (literal_at limits place r) at seen a (at + 1) (Some tok) (if_obeyed (limits.free || wanted r.1 x) place (Take (pure a))) s.is refl
          (tells_obeyed_last at a (at + 1) tok (limits.free || wanted r.1 x) (wanted r.1 x) place (pure a) (rule_is (wanted r.1 x)) (λ s1. reads_pure ⊥ ts a (at + 1) s1))
      tells_literal {x = x} {at = at} (t.string {p = p} {bytes = bytes} s) r seen =
          let a : Literals = (r.0 ++ x ∷ [], later r.1) in
          let tok : Lexed = record { kind = k.String; place = p; bytes = bytes } in
          tells_next ts (literal_at limits place r) at seen a (at + 1) (Some tok) (if_obeyed (limits.free || wanted r.1 x) place (Take (pure a))) s.is refl
          (tells_obeyed_last at a (at + 1) tok (limits.free || wanted r.1 x) (wanted r.1 x) place (pure a) (rule_is (wanted r.1 x)) (λ s1. reads_pure ⊥ ts a (at + 1) s1))

      tells_literals : {xs ys : List Literal} {from to : ℕ} → (r : MoreLiteralsAt ts xs ys from to) → IsNot ts m.Comma to → (count : ℕ) (wants : List Want) (seen : ℕ) → length ts ≤ from + count →
          Tells (more_literals_breaks ts place r wants) (turns (sees m.Comma) (literal_more limits place) count (xs, wants)) ts from seen (ys, wanted_behind ts place r wants) to
      unfolding literal_more
      tells_literals {xs = xs} {from = from} t.end q count wants seen u = tells_turns_end ts (sees m.Comma) (literal_more limits place) count (xs, wants) from seen q.is
      tells_literals {from = from} (t.more {p = p} s l r) q zero wants seen u = absurd (let h = stands_within ts from (k.Mark m.Comma) p s in omega (arith, h, u))
      tells_literals {xs = xs} {ys = ys} {from = from} {to = to} (t.more {p = p} {x = x} s l r) q (suc count) wants seen u =
          let a : Literals = (xs, wants) in
          let b : Literals = (xs ++ x ∷ [], later wants) in
          let tok : Lexed = record { kind = k.Mark m.Comma; place = p; bytes = s.bytes } in
          tells_turns_more ts (sees m.Comma) (literal_more limits place) count a b (ys, wanted_behind ts place r (later wants)) from seen (from + 1 + 1) to (is_there ts m.Comma from p s)
          (λ s1. tells_next ts _ from s1 b (from + 1 + 1) (Some tok) (comma_by limits place a true) s.is refl
          (tells_obeyed from b (from + 1 + 1) tok (limits.free || wants_more wants) (wants_more wants) place (literal limits place a) (rule_is (wants_more wants)) (λ s2. tells_literal l a s2)))
          (λ s1. tells_literals r q count (later wants) s1 (omega (arith, u)))

      tells_close : (r : Literals) (p : Place) (at seen : ℕ) → Stands ts at (k.Mark m.CloseParen) p → Tells (unless_obeyed (not (wants_more r.1)) place at) (close limits place r) ts at seen r.0 (at + 1)
      unfolding close
      tells_close r p at seen s =
          let tok : Lexed = record { kind = k.Mark m.CloseParen; place = p; bytes = s.bytes } in
          tells_next ts _ at seen r.0 (at + 1) (Some tok) (close_by limits place r true) s.is refl
          (tells_obeyed_last at r.0 (at + 1) tok (limits.free || not (wants_more r.1)) (not (wants_more r.1)) place (pure r.0) (rule_is (not (wants_more r.1))) (λ s1. reads_pure ⊥ ts r.0 (at + 1) s1))

      module _ (long : length ts ≤ limits.turns) where
        tells_rest : {list : List Literal} {end : Place} {from to : ℕ} → (r : AttributeRestAt ts list end from to) → (wants : List Want) (seen : ℕ) →
            Tells (attribute_rest_breaks ts place r wants) (attribute_rest limits place wants) ts from seen (list, end) to
        unfolding attribute_rest literals
        tells_rest {from = from} (t.no_literals {end = end} s) wants seen =
            let a : List Literal × Place = ([], end) in
            let tok : Lexed = record { kind = k.Mark m.CloseBracket; place = end; bytes = s.bytes } in
            tells_next ts _ from seen a (from + 1) (Some tok) (if_obeyed (limits.free || not (wants_more wants)) place (Take (pure a))) s.is refl
            (tells_obeyed_last from a (from + 1) tok (limits.free || not (wants_more wants)) (not (wants_more wants)) place (pure a) (rule_is (not (wants_more wants))) (λ s1. reads_pure ⊥ ts a (from + 1) s1))
        tells_rest {list = list} {end = end} {from = from} (t.literals {at = at} {p = p} {q = q} {x = x} s l r c d) wants seen =
            let a : List Literal × Place = (list, end) in
            let b : Literals = (x ∷ [], later wants) in
            let z : Literals = (list, wanted_behind ts place r (later wants)) in
            let tok : Lexed = record { kind = k.Mark m.OpenParen; place = p; bytes = s.bytes } in
            tells_next ts _ from seen a (at + 1 + 1) (Some tok) (if_obeyed (limits.free || wants_more wants) place (Take (literals limits place wants))) s.is refl
            (tells_obeyed from a (at + 1 + 1) tok (limits.free || wants_more wants) (wants_more wants) place (literals limits place wants) (rule_is (wants_more wants))
            (λ s1. tells_bind ts (literal limits place ([], wants)) _ (from + 1) s1 (from + 1 + 1) (at + 1 + 1) b a (tells_literal l ([], wants) s1)
            (λ s2. tells_bind ts (turns (sees m.Comma) (literal_more limits place) limits.turns b) _ (from + 1 + 1) s2 at (at + 1 + 1) z a
            (tells_literals r (not_there ts m.Comma at (k.Mark m.CloseParen) q c refl) limits.turns (later wants) s2 (omega (arith, long)))
            (λ s3. tells_last ts (close limits place z) _ at s3 (at + 1) (at + 1 + 1) list a (tells_close z q at s3 c)
            (λ s4. reads_bind ⊥ ts (expect m.CloseBracket) _ (at + 1) s4 (at + 1 + 1) (at + 1 + 1) end a (reads_expect ⊥ ts m.CloseBracket end (at + 1) s4 d)
            (λ s5. reads_pure ⊥ ts a (at + 1 + 1) s5))))))

    -- ---- attributes

    reads_number : (v : Number) (p : Place) (at seen : ℕ) → Stands ts at (k.Number v) p → Reads ⊥ number ts at seen v (at + 1)
    unfolding number
    reads_number v p at seen s = reads_next ⊥ ts number_at at seen v (at + 1) (Some (record { kind = k.Number v; place = p; bytes = s.bytes })) (Take (pure v)) s.is refl (λ s1. reads_pure ⊥ ts v (at + 1) s1)

    reads_spelled : (bytes : List ℕ) (p : Place) (at seen : ℕ) → SpelledStands ts at p bytes → Reads ⊥ (spelled bytes) ts at seen p (at + 1)
    unfolding spelled
    reads_spelled bytes p at seen s = reads_next ⊥ ts (spelled_at bytes) at seen p (at + 1) (Some (record { kind = k.Name; place = p; bytes = bytes })) (Take (pure p)) s.is
        (ap (λ b. if b then Take (pure p) else Refuse) ((bytes_eq-Decides bytes bytes).1 refl)) (λ s1. reads_pure ⊥ ts p (at + 1) s1)

    module _ (long : length ts ≤ limits.turns) (targets : List Target) where
      tells_attribute : {x : Attribute} {from to : ℕ} → (r : AttributeAt ts x from to) → (xs : List Attribute) (list : Noted) (seen : ℕ) →
          Tells (attribute_breaks ts limits targets r (names_of list)) (attribute limits targets (xs, list)) ts from seen (xs ++ x ∷ [], noted list (known_of x.node) (attribute_place ts r)) to
      unfolding attribute named binding binding_rest
      tells_attribute {x = x} {from = from} {to = to} (t.named {p = p} {end = end} {id = id} {list = lits} o i r) xs list seen =
          let tok : Lexed = record { kind = k.Name; place = id.place; bytes = id.name } in
          let a = attribute_of id.name in
          let z : Given = (xs ++ x ∷ [], noted list a id.place) in
          let rest = named limits targets (xs, list) p id a in
          tells_then ts (expect m.OpenBracket) _ from seen (from + 1) to p z (reads_expect ⊥ ts m.OpenBracket p from seen o)
          (λ s1. tells_next ts (attribute_at limits targets (xs, list) p) (from + 1) s1 z to (Some tok) (if_obeyed (limits.free || admits targets list a id.place) id.place (if_short limits tok (Take rest))) i.is refl
          (tells_obeyed_name (from + 1) z to tok (limits.free || admits targets list a id.place) (may_follow targets (names_of list) a) (is_short limits tok) (nat_le (length id.name) limits.names) id.place rest i.is
          (rule_is (admits targets list a id.place) ∙ admits_is targets list a id.place) (short_is limits free tok)
          (λ s2. tells_last ts (attribute_rest limits id.place (wants_of a)) _ (from + 1 + 1) s2 to to (lits, end) z (tells_rest id.place long r (wants_of a) s2) (λ s3. reads_pure ⊥ ts z to s3))))
      tells_attribute {x = x} {from = from} {to = to} (t.binding {p = p} {q = q} {end = end} {b = v} {s = w} o q2 b) xs list seen =
          let vulkan = b.places.0 in
          let there : Place = span b.places.0 b.places.2 in
          let tok : Lexed = record { kind = k.Name; place = b.places.2; bytes = codes "binding" } in
          let bracket : Lexed = record { kind = k.Mark m.OpenBracket; place = q; bytes = q2.bytes } in
          let g : Given = (xs, list) in
          let a : Given = (xs ++ x ∷ [], list ++ (known.Binding, there) ∷ []) in
          let i2 = from + 1 + 1 in
          let i4 = i2 + 1 + 1 in
          let claim = may_follow targets (names_of list) (Some known.Binding) in
          let rest = binding_rest limits targets g p there in
          tells_then ts (expect m.OpenBracket) _ from seen (from + 1) to p a (reads_expect ⊥ ts m.OpenBracket p from seen o)
          (λ s1. tells_next ts (attribute_at limits targets g p) (from + 1) s1 a to (Some bracket) (Take (binding limits targets g p)) q2.is refl
          (λ s2. tells_then ts (spelled (codes "vk")) _ i2 s2 (i2 + 1) to vulkan a (reads_spelled (codes "vk") vulkan i2 s2 b.vulkan)
          (λ s3. tells_then ts (expect m.DoubleColon) _ (i2 + 1) s3 i4 to b.places.1 a (reads_expect ⊥ ts m.DoubleColon b.places.1 (i2 + 1) s3 b.of)
          (λ s4. tells_next ts (binding_at limits targets g p vulkan) i4 s4 a to (Some tok) (if_obeyed (limits.free || admits targets list (Some known.Binding) there) there (Take rest)) b.name.is refl
          (tells_obeyed_last i4 a to tok (limits.free || admits targets list (Some known.Binding) there) claim there rest
          (rule_is (admits targets list (Some known.Binding) there) ∙ admits_is targets list (Some known.Binding) there)
          (λ s5. reads_bind ⊥ ts (expect m.OpenParen) _ (i4 + 1) s5 (i4 + 1 + 1) to b.places.3 a (reads_expect ⊥ ts m.OpenParen b.places.3 (i4 + 1) s5 b.begin)
          (λ s6. reads_bind ⊥ ts number _ (i4 + 1 + 1) s6 (i4 + 1 + 1 + 1) to v a (reads_number v b.places.4 (i4 + 1 + 1) s6 b.binding)
          (λ s7. reads_bind ⊥ ts (expect m.Comma) _ (i4 + 1 + 1 + 1) s7 (i4 + 1 + 1 + 1 + 1) to b.places.5 a (reads_expect ⊥ ts m.Comma b.places.5 (i4 + 1 + 1 + 1) s7 b.comma)
          (λ s8. reads_bind ⊥ ts number _ (i4 + 1 + 1 + 1 + 1) s8 (i4 + 1 + 1 + 1 + 1 + 1) to w a (reads_number w b.places.6 (i4 + 1 + 1 + 1 + 1) s8 b.set)
          (λ s9. reads_bind ⊥ ts (expect m.CloseParen) _ (i4 + 1 + 1 + 1 + 1 + 1) s9 (i4 + 1 + 1 + 1 + 1 + 1 + 1) to b.places.7 a (reads_expect ⊥ ts m.CloseParen b.places.7 (i4 + 1 + 1 + 1 + 1 + 1) s9 b.close)
          (λ s10. reads_bind ⊥ ts (expect m.CloseBracket) _ (i4 + 1 + 1 + 1 + 1 + 1 + 1) s10 (i4 + 1 + 1 + 1 + 1 + 1 + 1 + 1) to b.places.8 a (reads_expect ⊥ ts m.CloseBracket b.places.8 (i4 + 1 + 1 + 1 + 1 + 1 + 1) s10 b.bracket)
          (λ s11. reads_bind ⊥ ts (expect m.CloseBracket) _ (i4 + 1 + 1 + 1 + 1 + 1 + 1 + 1) s11 to to end a (reads_expect ⊥ ts m.CloseBracket end (i4 + 1 + 1 + 1 + 1 + 1 + 1 + 1) s11 b.last)
          (λ s12. reads_pure ⊥ ts a to s12)))))))))))))

      opens : {x : Attribute} {from to : ℕ} → AttributeAt ts x from to → (p : Place) × Stands ts from (k.Mark m.OpenBracket) p
      opens (t.named {p = p} o i r) = (p, o)
      opens (t.binding {p = p} o q b) = (p, o)

      -- what is noted behind them
      abbrev after : {xs ys : List Attribute} {from to : ℕ} → AttributesAt ts xs ys from to → Noted → Noted
      after (t.end q) list = list
      after (t.more {x = x} r s) list = after s (noted list (known_of x.node) (attribute_place ts r))

      tells_from : {xs ys : List Attribute} {from to : ℕ} → (r : AttributesAt ts xs ys from to) → (count : ℕ) (list : Noted) (seen : ℕ) → length ts ≤ from + count →
          Tells (attributes_breaks ts limits targets r (names_of list)) (turns (sees m.OpenBracket) (attribute limits targets) count (xs, list)) ts from seen (ys, after r list) to
      tells_from {xs = xs} {from = from} (t.end q) count list seen u = tells_turns_end ts (sees m.OpenBracket) (attribute limits targets) count (xs, list) from seen q.is
      tells_from {from = from} (t.more r s) zero list seen u = absurd (let o = opens r in let h = stands_within ts from (k.Mark m.OpenBracket) o.0 o.1 in omega (arith, h, u))
      tells_from {xs = xs} {ys = ys} {from = from} {to = to} (t.more {mid = mid} {x = x} r s) (suc count) list seen u =
          let more : Noted = noted list (known_of x.node) (attribute_place ts r) in
          let o = opens r in
          let next_ = turns (sees m.OpenBracket) (attribute limits targets) count (xs ++ x ∷ [], more) in
          tells_turns_more ts (sees m.OpenBracket) (attribute limits targets) count (xs, list) (xs ++ x ∷ [], more) (ys, after s more) from seen mid to (is_there ts m.OpenBracket from o.0 o.1)
          (λ s1. tells_attribute r xs list s1)
          (λ s1. subst (λ before. Tells {A = Given} (attributes_breaks ts limits targets s before) next_ ts mid s1 (ys, after s more) to) (names_noted list (known_of x.node) (attribute_place ts r))
          (tells_from s count more s1 (let h = attribute_moves ts r in omega (arith, h, u))))

      after_is : {xs ys : List Attribute} {from to : ℕ} → (r : AttributesAt ts xs ys from to) → (list : Noted) → after r list ≡ list ++ noted_in r
      after_is (t.end q) list = sym (noted_end list)
      after_is (t.more {x = x} r s) list = after_is s (noted list (known_of x.node) (attribute_place ts r)) ∙ noted_more list (noted_in s) (known_of x.node) (attribute_place ts r)

      pub tells_attributes : {ys : List Attribute} {from to : ℕ} → (r : AttributesAt ts [] ys from to) → (seen : ℕ) →
          Tells {A = Given} (attributes_breaks ts limits targets r []) (attributes limits targets) ts from seen (ys, noted_in r) to
      unfolding attributes names_of
      tells_attributes {ys = ys} {from = from} {to = to} r seen =
          subst (λ list. Tells {A = Given} (attributes_breaks ts limits targets r []) (turns (sees m.OpenBracket) (attribute limits targets) limits.turns ([], [])) ts from seen (ys, list) to) (after_is r [])
          (tells_from r limits.turns [] seen (omega (arith, long)))

    -- ---- once it is known what they stand before

    -- the rule on the attribute whose name lies there is broken at that token
    abbrev wrong_there : Option Place → ℕ → Option Break
    wrong_there None at = None
    wrong_there (Some place) at = Some (disobeyed place at)

    suits_is : (target : Target) (x : Option KnownAttribute) (place : Place) (rest : Noted) (at : ℕ) (cs : List Break) → first cs ≡ wrong_there (misfit target rest) at →
        first (suits target x place at ++ cs) ≡ wrong_there (misfit target (noted [] x place ++ rest)) at
    suits_is target None place rest at cs e = e
    suits_is target (Some known) place rest at cs e = by (may_stand known target)
      where
        by : (b : Bool) → first (unless_obeyed b place at ++ cs) ≡ wrong_there (if b then misfit target rest else Some place) at
        by true = e
        by false = refl

    misfit_is : {xs ys : List Attribute} {from to : ℕ} → (r : AttributesAt ts xs ys from to) → (target : Target) (at : ℕ) → first (misfit_breaks ts r target at) ≡ wrong_there (misfit target (noted_in r)) at
    misfit_is (t.end q) target at = refl
    misfit_is (t.more {x = x} r s) target at = suits_is target (known_of x.node) (attribute_place ts r) (noted_in s) at (misfit_breaks ts s target at) (misfit_is s target at)

    -- a token that is taken, or left, where they may stand before such a thing; the first of those that are wrong is told
    pub tells_suits : {A : Type 0} {bs : List Break} {xs ys : List Attribute} {from_ to_ : ℕ} → (r : AttributesAt ts xs ys from_ to_) → (target : Target) (at : ℕ) (a : A) (to : ℕ) (t : Lexed) (p : Parser A) →
        ((seen : ℕ) → Tells bs p ts (at + 1) seen a to) → TellsChoice ts (misfit_breaks ts r target at ++ bs) at a to (Some t) (if_suits limits target (noted_in r) (Take p))
    tells_suits {A = A} {bs = bs} r target at a to t p h =
        subst (λ b. TellsChoice ts (misfit_breaks ts r target at ++ bs) at a to (Some t) (suited b (misfit target (noted_in r)) (Take p))) (sym free)
        (by (misfit_breaks ts r target at) (misfit target (noted_in r)) (misfit_is r target at))
      where
        by : (list : List Break) (wrong : Option Place) → first list ≡ wrong_there wrong at → TellsChoice ts (list ++ bs) at a to (Some t) (suited false wrong (Take p))
        by [] None e = h
        by [] (Some place) e = cc
        by (b ∷ list) None e = cc
        by (b ∷ list) (Some place) e = let q = one_break b (disobeyed place at) e in (sym (ap (λ b. b.code) q), sym (ap (λ b. b.place) q))

    pub tells_suits_left : {A : Type 0} {bs : List Break} {xs ys : List Attribute} {from_ to_ : ℕ} → (r : AttributesAt ts xs ys from_ to_) → (target : Target) (at : ℕ) (a : A) (to : ℕ) (x : Option Lexed) (p : Parser A) →
        ((seen : ℕ) → Tells bs p ts at seen a to) → TellsChoice ts (misfit_breaks ts r target at ++ bs) at a to x (if_suits limits target (noted_in r) (Leave p))
    tells_suits_left {A = A} {bs = bs} r target at a to x p h =
        subst (λ b. TellsChoice ts (misfit_breaks ts r target at ++ bs) at a to x (suited b (misfit target (noted_in r)) (Leave p))) (sym free)
        (by (misfit_breaks ts r target at) (misfit target (noted_in r)) (misfit_is r target at))
      where
        by : (list : List Break) (wrong : Option Place) → first list ≡ wrong_there wrong at → TellsChoice ts (list ++ bs) at a to x (suited false wrong (Leave p))
        by [] None e = h
        by [] (Some place) e = cc
        by (b ∷ list) None e = cc
        by (b ∷ list) (Some place) e = let q = one_break b (disobeyed place at) e in (sym (ap (λ b. b.code) q), sym (ap (λ b. b.place) q))
