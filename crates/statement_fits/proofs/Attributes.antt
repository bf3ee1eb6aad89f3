-- The attributes before a thing: what is spelled, obeys the rules and keeps the limits is read.
use Rattle.std.proofs.Common.{Bool, true, false, not, ◌≡◌, ℕ, zero, suc, ◌+◌, ◌≤◌, ◌||◌, ◌&&◌, ◌==◌, List, [], ◌∷◌, ◌++◌, map, Option, Some, None, refl, sym, ◌∙◌, ap, subst, arith, eq-eqb, eqb-true, ◌⊎◌, inl, inr, codes, if◌then◌else◌}
use Rattle.std.specs.List.{list_all}
use Rattle.std.proofs.lemmas.Slice.Eq.{bytes_eq-Decides}
use Rattle.slang_names.specs.declared.places.Place.{Place}
use Rattle.slang_names.specs.declared.numbers.Number.{Number}
use Rattle.slang_tree.specs.declared.statements.Attribute.{Attribute}
use Rattle.slang_tree.specs.declared.statements.Literal.{Literal}
use Rattle.slang_tokens.specs.declared.tokens.Kind.TheVariants as k
use Rattle.slang_tokens.specs.declared.tokens.Mark.TheVariants as m
use Rattle.slang_reading.specs.Lexed.{Lexed}
use Rattle.slang_reading.specs.Reading.{Choice, Take, Refuse, pure, turns}
use Rattle.slang_reading.specs.Kinds.{sees, span}
use Rattle.slang_reading.proofs.Exact.{Reads, ReadsChoice, reads_pure, reads_bind, reads_next, reads_turns_end, reads_turns_more}
use Rattle.slang_grammar.specs.Standing.{Stands, IsNot}
use Rattle.slang_grammar.specs.Heights.{greatest}
use Rattle.slang_grammar.specs.Descent.{Limits, expect, if_short}
use Rattle.slang_grammar.proofs.Shared.{reads_expect, short_within, not_there, is_there}
use Rattle.slang_grammar.proofs.TypesFitting.{greatest_last}
use Rattle.statement_grammar.specs.declared.attributes.KnownAttribute.{KnownAttribute}
use Rattle.statement_grammar.specs.declared.attributes.KnownAttribute.TheVariants as known
use Rattle.statement_grammar.specs.declared.attributes.Target.{Target}
use Rattle.statement_grammar.specs.declared.attributes.Target.TheVariants as target
use Rattle.statement_grammar.specs.AttributeTables.{attribute_of, may_stand, attribute_code}
use Rattle.statement_grammar.specs.Attributes as t
use Rattle.statement_grammar.specs.Attributes.{attributed, unquoted, LiteralAt, MoreLiteralsAt, AttributeRestAt, AttributeAt, AttributesAt, SpelledStands}
use Rattle.statement_grammar.specs.AttributeRules.{Want, wants_of, meets, all_meet, known_of, literals_of, fits_as, fits, same_attribute, all_differ, obeys}
use Rattle.statement_grammar.specs.AttributesDescent.{Given, Noted, if_obeyed, Literals, wanted, later, wants_more, literal_at, literal, comma_by, literal_more, close_by, close, literals, attribute_rest, noted, has, possible, admits, spelled_at, spelled, number_at, number, named, binding_rest, binding_at, binding, attribute_at, attribute, attributes, loops}
use Rattle.statement_fits.specs.Sizes.{attribute_name}
use Rattle.statement_fits.proofs.Fitting.{and_left, and_right, and_both, or_map}
use Rattle.statement_fits.proofs.Moves.{Enough, Left, left_all, left_next, left_none, attribute_moves}

-- ---- the rules of the front of a list

pub all_front : {A : Type 0} (f : A → Bool) (xs : List A) (x : A) → list_all f (xs ++ x ∷ []) ≡ true → list_all f xs ≡ true
all_front f [] x h = refl
all_front f (y ∷ ys) x h = and_both (f y) (list_all f ys) (and_left (f y) (list_all f (ys ++ x ∷ [])) h) (all_front f ys x (and_right (f y) (list_all f (ys ++ x ∷ [])) h))

pub all_last : {A : Type 0} (f : A → Bool) (xs : List A) (x : A) → list_all f (xs ++ x ∷ []) ≡ true → f x ≡ true
all_last f [] x h = and_left (f x) true h
all_last f (y ∷ ys) x h = all_last f ys x (and_right (f y) (list_all f (ys ++ x ∷ [])) h)

pub all_longer : {A : Type 0} (f : A → Bool) (xs : List A) (x : A) → list_all f xs ≡ true → f x ≡ true → list_all f (xs ++ x ∷ []) ≡ true
all_longer f [] x h g = and_both (f x) true g refl
all_longer f (y ∷ ys) x h g = and_both (f y) (list_all f (ys ++ x ∷ [])) (and_left (f y) (list_all f ys) h) (all_longer f ys x (and_right (f y) (list_all f ys) h) g)

differ_front : (ks : List (Option KnownAttribute)) (x : Option KnownAttribute) → all_differ (ks ++ x ∷ []) ≡ true → all_differ ks ≡ true
differ_front [] x h = refl
differ_front (y ∷ ys) x h = let f : Option KnownAttribute → Bool = λ z. not (same_attribute y z) in
    and_both (list_all f ys) (all_differ ys) (all_front f ys x (and_left (list_all f (ys ++ x ∷ [])) (all_differ (ys ++ x ∷ [])) h))
    (differ_front ys x (and_right (list_all f (ys ++ x ∷ [])) (all_differ (ys ++ x ∷ [])) h))

differ_last : (ks : List (Option KnownAttribute)) (x : Option KnownAttribute) → all_differ (ks ++ x ∷ []) ≡ true → list_all (λ y. not (same_attribute y x)) ks ≡ true
differ_last [] x h = refl
differ_last (y ∷ ys) x h = let f : Option KnownAttribute → Bool = λ z. not (same_attribute y z) in
    and_both (not (same_attribute y x)) (list_all (λ z. not (same_attribute z x)) ys) (all_last f ys x (and_left (list_all f (ys ++ x ∷ [])) (all_differ (ys ++ x ∷ [])) h))
    (differ_last ys x (and_right (list_all f (ys ++ x ∷ [])) (all_differ (ys ++ x ∷ [])) h))

abbrev pub kinds : List Attribute → List (Option KnownAttribute)
kinds list = map (λ x. known_of x.node) list

pub kinds_longer : (xs : List Attribute) (x : Attribute) → kinds (xs ++ x ∷ []) ≡ kinds xs ++ known_of x.node ∷ []
kinds_longer [] x = refl
kinds_longer (y ∷ ys) x = ap (λ l. known_of y.node ∷ l) (kinds_longer ys x)

-- ---- what is noted of those before

has_longer : (a b : KnownAttribute) (p : Place) (list : Noted) → has a list ≡ false → (attribute_code a == attribute_code b) ≡ false → has a (list ++ (b, p) ∷ []) ≡ false
has_longer a b p [] h g = ap (λ c. c || false) g
has_longer a b p (y ∷ ys) h g = by (attribute_code a == attribute_code y.0) refl (λ f. has_longer a b p ys f g)
  where
    by : (c : Bool) → (attribute_code a == attribute_code y.0) ≡ c → (has a ys ≡ false → has a (ys ++ (b, p) ∷ []) ≡ false) → ((attribute_code a == attribute_code y.0) || has a (ys ++ (b, p) ∷ [])) ≡ false
    by true q rest = let z = sym h ∙ ap (λ c. c || has a ys) q in cc
    by false q rest = ap (λ c. c || has a (ys ++ (b, p) ∷ [])) q ∙ rest (sym (ap (λ c. c || has a ys) q) ∙ h)

differ_back : (a b : ℕ) → not (b == a) ≡ true → (a == b) ≡ false
differ_back a b h = by (a == b) refl
  where
    by : (c : Bool) → (a == b) ≡ c → c ≡ false
    by true q = let z = sym (ap not (eq-eqb b a (sym (eqb-true a b q)))) ∙ h in cc
    by false q = refl

-- the rules on attributes before such a thing, as they are used
module _ (aim : Target) where
  record Obeyed (list : List Attribute) : Type 0 where
    fit : list_all (fits aim) list ≡ true
    differ : all_differ (kinds list) ≡ true

  obeyed_front : (xs : List Attribute) (x : Attribute) → Obeyed (xs ++ x ∷ []) → Obeyed xs
  obeyed_front xs x o = record {
    fit = all_front (fits aim) xs x o.fit;
    differ = differ_front (kinds xs) (known_of x.node) (sym (ap all_differ (kinds_longer xs x)) ∙ o.differ);
  }

  obeyed_before : {ts : List Lexed} {xs ys : List Attribute} {from to : ℕ} → AttributesAt ts xs ys from to → Obeyed ys → Obeyed xs
  obeyed_before (t.end q) o = o
  obeyed_before (t.more {x = x} {list = xs} r s) o = obeyed_front xs x (obeyed_before s o)

  -- what differs from all of those is noted nowhere, and each that is noted may stand there
  record Follows (xs : List Attribute) (list : Noted) : Type 0 where
    new : (a : KnownAttribute) → list_all (λ y. not (same_attribute y (Some a))) (kinds xs) ≡ true → has a list ≡ false
    stand : list_all (λ y. may_stand y.0 aim) list ≡ true

  follows_longer : (xs : List Attribute) (x : Attribute) (a : KnownAttribute) (p : Place) (list : Noted) → known_of x.node ≡ Some a → may_stand a aim ≡ true → Follows xs list → Follows (xs ++ x ∷ []) (list ++ (a, p) ∷ [])
  follows_longer xs x a p list e s f = record {
    new = λ b h. let g : list_all (λ y. not (same_attribute y (Some b))) (kinds xs ++ known_of x.node ∷ []) ≡ true = sym (ap (list_all (λ y. not (same_attribute y (Some b)))) (kinds_longer xs x)) ∙ h in
        has_longer b a p list (f.new b (all_front (λ y. not (same_attribute y (Some b))) (kinds xs) (known_of x.node) g))
        (differ_back (attribute_code b) (attribute_code a) (sym (ap (λ o. not (same_attribute o (Some b))) e) ∙ all_last (λ y. not (same_attribute y (Some b))) (kinds xs) (known_of x.node) g));
    stand = all_longer (λ y. may_stand y.0 aim) list (a, p) f.stand s;
  }

-- attributes that may all stand before such a thing are possible before one of those
abbrev pub Among : Target → List Target → Type 0
Among aim targets = (list : Noted) → list_all (λ x. may_stand x.0 aim) list ≡ true → possible targets list ≡ true

pub before_loops : Among target.Loop loops
before_loops list h = ap (λ c. c || false) h

module _ (aim : Target) (targets : List Target) (among : Among aim targets) where
  admitted : (xs : List Attribute) (x : Attribute) (a : KnownAttribute) (p : Place) (list : Noted) → known_of x.node ≡ Some a → may_stand a aim ≡ true → Follows aim xs list → Obeyed aim (xs ++ x ∷ []) → admits targets list (Some a) p ≡ true
  admitted xs x a p list e s f o =
      let g : all_differ (kinds xs ++ known_of x.node ∷ []) ≡ true = sym (ap all_differ (kinds_longer xs x)) ∙ o.differ in
      let d : list_all (λ y. not (same_attribute y (Some a))) (kinds xs) ≡ true = subst (λ z. list_all (λ y. not (same_attribute y z)) (kinds xs) ≡ true) e (differ_last (kinds xs) (known_of x.node) g) in
      let all = all_longer (λ y. may_stand y.0 aim) list (a, p) f.stand s in
      and_both (not (has a list)) (possible targets (list ++ (a, p) ∷ [])) (ap not (f.new a d)) (among (list ++ (a, p) ∷ []) all)

-- ---- reading

pub free_or : (a b : Bool) → b ≡ true → (a || b) ≡ true
free_or true b h = refl
free_or false b h = h

-- that, where the limits are not free
abbrev Unless : Bool → Type 0 → Type 0
Unless free P = (free ≡ true) ⊎ P

unless_of : {P : Type 0} (free b : Bool) → (free || b) ≡ true → (b ≡ true → P) → Unless free P
unless_of true b h g = inl refl
unless_of false b h g = inr (g h)

unless_map : {P Q : Type 0} (free : Bool) → (P → Q) → Unless free P → Unless free Q
unless_map free g (inl e) = inl e
unless_map free g (inr h) = inr (g h)

is_or : {P : Type 0} (free b : Bool) → (P → b ≡ true) → Unless free P → (free || b) ≡ true
is_or free b g (inl e) = ap (λ c. c || b) e
is_or free b g (inr h) = free_or free b (g h)

module _ (aim : Target) (targets : List Target) (among : Among aim targets) where
  -- an attribute that obeys is admitted, has what it wants, and is noted
  granted : (xs : List Attribute) (x : Attribute) (a : Option KnownAttribute) (p : Place) (list : Noted) → known_of x.node ≡ a → Obeyed aim (xs ++ x ∷ []) × Follows aim xs list →
      (admits targets list a p ≡ true) × (all_meet (wants_of a) (literals_of x.node) ≡ true) × Follows aim (xs ++ x ∷ []) (noted list a p)
  granted xs x None p list e (o, f) = let z : false ≡ true = sym (ap (λ a. fits_as aim a (literals_of x.node)) e) ∙ all_last (fits aim) xs x o.fit in cc
  granted xs x (Some a) p list e (o, f) =
      let g : (may_stand a aim && all_meet (wants_of (Some a)) (literals_of x.node)) ≡ true = sym (ap (λ a. fits_as aim a (literals_of x.node)) e) ∙ all_last (fits aim) xs x o.fit in
      let s = and_left (may_stand a aim) (all_meet (wants_of (Some a)) (literals_of x.node)) g in
      (admitted aim targets among xs x a p list e s f o, and_right (may_stand a aim) (all_meet (wants_of (Some a)) (literals_of x.node)) g, follows_longer aim xs x a p list e s f)

module _ (ts : List Lexed) (limits : Limits) where
  -- a rule that is obeyed, or left out
  obeyed_read : {A : Type 0} (at : ℕ) (a : A) (to : ℕ) (x : Option Lexed) (b : Bool) (p : Place) (c : Choice A) → (limits.free || b) ≡ true → ReadsChoice ⊥ ts at a to x c → ReadsChoice ⊥ ts at a to x (if_obeyed (limits.free || b) p c)
  obeyed_read at a to x b p c h r = subst (λ d. ReadsChoice ⊥ ts at a to x (if_obeyed d p c)) (sym h) r

  module _ (place : Place) where
    literal_read : {x : Literal} {at : ℕ} → LiteralAt ts x at → (r : Literals) (seen : ℕ) → (limits.free || wanted r.1 x) ≡ true → Reads ⊥ (literal limits place r) ts at seen (r.0 ++ x ∷ [], later r.1) (at + 1)
    unfolding literal
    literal_read {x = x} {at = at} (t.number {p = p} {v = v} s) r seen h = let a : Literals = (r.0 ++ x ∷ [], later r.1) in
        reads_next ⊥ ts (literal_at limits place r) at seen a (at + 1) (Some (record { kind = k.Number v; place = p; bytes = s.bytes })) (if_obeyed (limits.free || wanted r.1 x) place (Take (pure a))) s.is refl
        (obeyed_read at a (at + 1) (Some (record { kind = k.Number v; place = p; bytes = s.bytes })) (wanted r.1 x) place (Take (pure a)) h (λ s1. reads_pure ⊥ ts a (at + 1) s1))
    literal_read {x = x} {at = at} (t.string {p = p} {bytes = bytes} s) r seen h = let a : Literals = (r.0 ++ x ∷ [], later r.1) in
        reads_next ⊥ ts (literal_at limits place r) at seen a (at + 1) (Some (record { kind = k.String; place = p; bytes = bytes })) (if_obeyed (limits.free || wanted r.1 x) place (Take (pure a))) s.is refl
        (obeyed_read at a (at + 1) (Some (record { kind = k.String; place = p; bytes = bytes })) (wanted r.1 x) place (Take (pure a)) h (λ s1. reads_pure ⊥ ts a (at + 1) s1))

    -- the literals behind those
    behind : {xs ys : List Literal} {from to : ℕ} → MoreLiteralsAt ts xs ys from to → List Literal
    behind t.end = []
    behind (t.more {x = x} s l r) = x ∷ behind r

    behind_all : {xs ys : List Literal} {from to : ℕ} (r : MoreLiteralsAt ts xs ys from to) → ys ≡ xs ++ behind r
    unfolding behind
    behind_all {xs = xs} t.end = ends xs
      where
        ends : (zs : List Literal) → zs ≡ zs ++ []
        ends [] = refl
        ends (z ∷ zs) = ap (λ l. z ∷ l) (ends zs)
    behind_all {xs = xs} (t.more {x = x} s l r) = behind_all r ∙ moved xs x (behind r)
      where
        moved : (zs : List Literal) (x : Literal) (l : List Literal) → (zs ++ x ∷ []) ++ l ≡ zs ++ x ∷ l
        moved [] x l = refl
        moved (z ∷ zs) x l = ap (λ l1. z ∷ l1) (moved zs x l)

    first_met : (wants : List Want) (x : Literal) (xs : List Literal) → all_meet wants (x ∷ xs) ≡ true → wanted wants x ≡ true
    first_met [] x xs h = cc
    first_met (y ∷ ys) x xs h = and_left (meets y x) (all_meet ys xs) h

    more_met : (wants : List Want) (x : Literal) (xs : List Literal) → all_meet wants (x ∷ xs) ≡ true → wants_more wants ≡ true
    more_met [] x xs h = cc
    more_met (y ∷ ys) x xs h = refl

    later_met : (wants : List Want) (x : Literal) (xs : List Literal) → all_meet wants (x ∷ xs) ≡ true → all_meet (later wants) xs ≡ true
    later_met [] x xs h = cc
    later_met (y ∷ ys) x xs h = and_right (meets y x) (all_meet ys xs) h

    all_met : (wants : List Want) → all_meet wants [] ≡ true → not (wants_more wants) ≡ true
    all_met [] h = refl
    all_met (y ∷ ys) h = cc

    -- the same, where the limits are not free
    meets_first : (wants : List Want) (x : Literal) (xs : List Literal) → (limits.free || all_meet wants (x ∷ xs)) ≡ true → (limits.free || wanted wants x) ≡ true
    meets_first wants x xs h = or_map limits.free (all_meet wants (x ∷ xs)) (wanted wants x) (first_met wants x xs) h

    meets_more : (wants : List Want) (x : Literal) (xs : List Literal) → (limits.free || all_meet wants (x ∷ xs)) ≡ true → (limits.free || wants_more wants) ≡ true
    meets_more wants x xs h = or_map limits.free (all_meet wants (x ∷ xs)) (wants_more wants) (more_met wants x xs) h

    meets_later : (wants : List Want) (x : Literal) (xs : List Literal) → (limits.free || all_meet wants (x ∷ xs)) ≡ true → (limits.free || all_meet (later wants) xs) ≡ true
    meets_later wants x xs h = or_map limits.free (all_meet wants (x ∷ xs)) (all_meet (later wants) xs) (later_met wants x xs) h

    meets_all : (wants : List Want) → (limits.free || all_meet wants []) ≡ true → (limits.free || not (wants_more wants)) ≡ true
    meets_all wants h = or_map limits.free (all_meet wants []) (not (wants_more wants)) (all_met wants) h

    -- all that is wanted is there
    literals_read : {xs ys : List Literal} {from to : ℕ} (r : MoreLiteralsAt ts xs ys from to) → IsNot ts m.Comma to → (count : ℕ) (wants : List Want) → Left ts count from → (limits.free || all_meet wants (behind r)) ≡ true →
        (left : List Want) × ((limits.free || not (wants_more left)) ≡ true) × ((seen : ℕ) → Reads ⊥ (turns (sees m.Comma) (literal_more limits place) count (xs, wants)) ts from seen (ys, left) to)
    unfolding behind literal_more
    literals_read {xs = xs} {from = from} t.end q count wants u h = (wants, meets_all wants h, λ seen. reads_turns_end ⊥ ts (sees m.Comma) (literal_more limits place) count (xs, wants) from seen q.is)
    literals_read {xs = xs} {from = from} (t.more s l r) q zero wants u h = absurd (left_none ts from _ s.is u)
    literals_read {xs = xs} {ys = ys} {from = from} {to = to} (t.more {p = p} {x = x} s l r) q (suc count) wants u h =
        let a : Literals = (xs, wants) in
        let b : Literals = (xs ++ x ∷ [], later wants) in
        let rest = literals_read r q count (later wants) (left_next ts count from (from + 1 + 1) (omega arith) u) (meets_later wants x (behind r) h) in (
          rest.0,
          rest.1,
          λ seen. reads_turns_more ⊥ ts (sees m.Comma) (literal_more limits place) count a b (ys, rest.0) from seen (from + 1 + 1) to (is_there ts m.Comma from p s)
              (λ s1. reads_next ⊥ ts _ from s1 b (from + 1 + 1) (Some (record { kind = k.Mark m.Comma; place = p; bytes = s.bytes })) (comma_by limits place a true) s.is refl
              (obeyed_read from b (from + 1 + 1) (Some (record { kind = k.Mark m.Comma; place = p; bytes = s.bytes })) (wants_more wants) place (Take (literal limits place a)) (meets_more wants x (behind r) h)
              (λ s2. literal_read l a s2 (meets_first wants x (behind r) h))))
              (λ s1. rest.2 s1),
        )

    close_read : (r : Literals) (p : Place) (at seen : ℕ) → (limits.free || not (wants_more r.1)) ≡ true → Stands ts at (k.Mark m.CloseParen) p → Reads ⊥ (close limits place r) ts at seen r.0 (at + 1)
    unfolding close
    close_read r p at seen h s = reads_next ⊥ ts _ at seen r.0 (at + 1) (Some (record { kind = k.Mark m.CloseParen; place = p; bytes = s.bytes })) (close_by limits place r true) s.is refl
        (obeyed_read at r.0 (at + 1) (Some (record { kind = k.Mark m.CloseParen; place = p; bytes = s.bytes })) (not (wants_more r.1)) place (Take (pure r.0)) h (λ s1. reads_pure ⊥ ts r.0 (at + 1) s1))

    rest_read : {list : List Literal} {end : Place} {from to : ℕ} → AttributeRestAt ts list end from to → (wants : List Want) (seen : ℕ) → {d : ℕ} → Enough ts limits d → (limits.free || all_meet wants list) ≡ true →
        Reads ⊥ (attribute_rest limits place wants) ts from seen (list, end) to
    unfolding attribute_rest literals
    rest_read {from = from} (t.no_literals {end = end} s) wants seen u h = let a : List Literal × Place = ([], end) in
        reads_next ⊥ ts _ from seen a (from + 1) (Some (record { kind = k.Mark m.CloseBracket; place = end; bytes = s.bytes })) (if_obeyed (limits.free || not (wants_more wants)) place (Take (pure a))) s.is refl
        (obeyed_read from a (from + 1) (Some (record { kind = k.Mark m.CloseBracket; place = end; bytes = s.bytes })) (not (wants_more wants)) place (Take (pure a)) (meets_all wants h) (λ s1. reads_pure ⊥ ts a (from + 1) s1))
    rest_read {list = list} {end = end} {from = from} (t.literals {at = at} {p = p} {q = q} {x = x} s l r c d) wants seen u h = let a : List Literal × Place = (list, end) in
        let b : Literals = (x ∷ [], later wants) in
        let g : (limits.free || all_meet wants (x ∷ behind r)) ≡ true = sym (ap (λ l. limits.free || all_meet wants l) (behind_all r)) ∙ h in
        let more = literals_read r (not_there ts m.Comma at (k.Mark m.CloseParen) q c refl) limits.turns (later wants) (left_all u (from + 1 + 1)) (meets_later wants x (behind r) g) in
        let z : Literals = (list, more.0) in
        reads_next ⊥ ts _ from seen a (at + 1 + 1) (Some (record { kind = k.Mark m.OpenParen; place = p; bytes = s.bytes })) (if_obeyed (limits.free || wants_more wants) place (Take (literals limits place wants))) s.is refl
        (obeyed_read from a (at + 1 + 1) (Some (record { kind = k.Mark m.OpenParen; place = p; bytes = s.bytes })) (wants_more wants) place (Take (literals limits place wants)) (meets_more wants x (behind r) g)
        (λ s1. reads_bind ⊥ ts (literal limits place ([], wants)) _ (from + 1) s1 (from + 1 + 1) (at + 1 + 1) b a (literal_read l ([], wants) s1 (meets_first wants x (behind r) g))
        (λ s2. reads_bind ⊥ ts (turns (sees m.Comma) (literal_more limits place) limits.turns b) _ (from + 1 + 1) s2 at (at + 1 + 1) z a (more.2 s2)
        (λ s3. reads_bind ⊥ ts (close limits place z) _ at s3 (at + 1) (at + 1 + 1) list a (close_read z q at s3 more.1 c)
        (λ s4. reads_bind ⊥ ts (expect m.CloseBracket) _ (at + 1) s4 (at + 1 + 1) (at + 1 + 1) end a (reads_expect ⊥ ts m.CloseBracket end (at + 1) s4 d)
        (λ s5. reads_pure ⊥ ts a (at + 1 + 1) s5))))))

  number_read : (v : Number) (p : Place) (at seen : ℕ) → Stands ts at (k.Number v) p → Reads ⊥ number ts at seen v (at + 1)
  unfolding number
  number_read v p at seen s = reads_next ⊥ ts number_at at seen v (at + 1) (Some (record { kind = k.Number v; place = p; bytes = s.bytes })) (Take (pure v)) s.is refl (λ s1. reads_pure ⊥ ts v (at + 1) s1)

  spelled_read : (bytes : List ℕ) (p : Place) (at seen : ℕ) → SpelledStands ts at p bytes → Reads ⊥ (spelled bytes) ts at seen p (at + 1)
  unfolding spelled
  spelled_read bytes p at seen s = reads_next ⊥ ts (spelled_at bytes) at seen p (at + 1) (Some (record { kind = k.Name; place = p; bytes = bytes })) (Take (pure p)) s.is
      (ap (λ b. if b then Take (pure p) else Refuse) ((bytes_eq-Decides bytes bytes).1 refl)) (λ s1. reads_pure ⊥ ts p (at + 1) s1)

  -- attributes before one of those things, which may all stand before that one
  module _ (aim : Target) (targets : List Target) (among : Among aim targets) where
    -- an attribute behind those
    abbrev Read : Attribute → List Attribute → Noted → ℕ → ℕ → Type 0
    Read x xs list from to = (after : Noted) × Unless limits.free (Follows aim (xs ++ x ∷ []) after) × ((seen : ℕ) → Reads ⊥ (attribute limits targets (xs, list)) ts from seen (xs ++ x ∷ [], after) to)

    attribute_read : {x : Attribute} {from to : ℕ} → AttributeAt ts x from to → (xs : List Attribute) (list : Noted) → {d : ℕ} → Enough ts limits d → Unless limits.free (Obeyed aim (xs ++ x ∷ []) × Follows aim xs list) → attribute_name x.node ≤ limits.names →
        Read x xs list from to
    unfolding attribute named binding binding_rest
    attribute_read {x = x} {from = from} {to = to} (t.named {p = p} {end = end} {id = id} {list = lits} o i r) xs list u rule short =
        let a = attribute_of id.name in
        let g = granted aim targets among xs x a id.place list refl in
        let tok : Lexed = record { kind = k.Name; place = id.place; bytes = id.name } in
        let z : Given = (xs ++ x ∷ [], noted list a id.place) in
        let rest = named limits targets (xs, list) p id a in (
          noted list a id.place,
          unless_map limits.free (λ h. (g h).2) rule,
          λ seen. reads_bind ⊥ ts (expect m.OpenBracket) _ from seen (from + 1) to p z (reads_expect ⊥ ts m.OpenBracket p from seen o)
              (λ s1. reads_next ⊥ ts (attribute_at limits targets (xs, list) p) (from + 1) s1 z to (Some tok)
              (if_obeyed (limits.free || admits targets list a id.place) id.place (if_short limits tok (Take rest))) i.is refl
              (obeyed_read (from + 1) z to (Some tok) (admits targets list a id.place) id.place (if_short limits tok (Take rest)) (is_or limits.free (admits targets list a id.place) (λ h. (g h).0) rule)
              (short_within ⊥ ts limits (from + 1) z to tok (Take rest) (inl short)
              (λ s2. reads_bind ⊥ ts (attribute_rest limits id.place (wants_of a)) _ (from + 1 + 1) s2 to to (lits, end) z (rest_read id.place r (wants_of a) s2 u (is_or limits.free (all_meet (wants_of a) lits) (λ h. (g h).1) rule))
              (λ s3. reads_pure ⊥ ts z to s3))))),
        )
    attribute_read {x = x} {from = from} {to = to} (t.binding {p = p} {q = q} {end = end} {b = v} {s = w} o q2 b) xs list u rule short =
        let vulkan = b.places.0 in
        let there : Place = span b.places.0 b.places.2 in
        let tok : Lexed = record { kind = k.Name; place = b.places.2; bytes = codes "binding" } in
        let after = list ++ (known.Binding, there) ∷ [] in
        let grant = granted aim targets among xs x (Some known.Binding) there list refl in
        let g : Given = (xs, list) in
        let a : Given = (xs ++ x ∷ [], after) in
        let i2 = from + 1 + 1 in
        let i4 = i2 + 1 + 1 in (
          after,
          unless_map limits.free (λ h. (grant h).2) rule,
          λ seen. reads_bind ⊥ ts (expect m.OpenBracket) _ from seen (from + 1) to p a (reads_expect ⊥ ts m.OpenBracket p from seen o)
              (λ s1. reads_next ⊥ ts (attribute_at limits targets g p) (from + 1) s1 a to (Some (record { kind = k.Mark m.OpenBracket; place = q; bytes = q2.bytes })) (Take (binding limits targets g p)) q2.is refl
              (λ s2. reads_bind ⊥ ts (spelled (codes "vk")) _ i2 s2 (i2 + 1) to vulkan a (spelled_read (codes "vk") vulkan i2 s2 b.vulkan)
              (λ s3. reads_bind ⊥ ts (expect m.DoubleColon) _ (i2 + 1) s3 i4 to b.places.1 a (reads_expect ⊥ ts m.DoubleColon b.places.1 (i2 + 1) s3 b.of)
              (λ s4. reads_next ⊥ ts (binding_at limits targets g p vulkan) i4 s4 a to (Some tok)
              (if_obeyed (limits.free || admits targets list (Some known.Binding) there) there (Take (binding_rest limits targets g p there))) b.name.is refl
              (obeyed_read i4 a to (Some tok) (admits targets list (Some known.Binding) there) there (Take (binding_rest limits targets g p there)) (is_or limits.free (admits targets list (Some known.Binding) there) (λ h. (grant h).0) rule)
              (λ s5. reads_bind ⊥ ts (expect m.OpenParen) _ (i4 + 1) s5 (i4 + 1 + 1) to b.places.3 a (reads_expect ⊥ ts m.OpenParen b.places.3 (i4 + 1) s5 b.begin)
              (λ s6. reads_bind ⊥ ts number _ (i4 + 1 + 1) s6 (i4 + 1 + 1 + 1) to v a (number_read v b.places.4 (i4 + 1 + 1) s6 b.binding)
              (λ s7. reads_bind ⊥ ts (expect m.Comma) _ (i4 + 1 + 1 + 1) s7 (i4 + 1 + 1 + 1 + 1) to b.places.5 a (reads_expect ⊥ ts m.Comma b.places.5 (i4 + 1 + 1 + 1) s7 b.comma)
              (λ s8. reads_bind ⊥ ts number _ (i4 + 1 + 1 + 1 + 1) s8 (i4 + 1 + 1 + 1 + 1 + 1) to w a (number_read w b.places.6 (i4 + 1 + 1 + 1 + 1) s8 b.set)
              (λ s9. reads_bind ⊥ ts (expect m.CloseParen) _ (i4 + 1 + 1 + 1 + 1 + 1) s9 (i4 + 1 + 1 + 1 + 1 + 1 + 1) to b.places.7 a (reads_expect ⊥ ts m.CloseParen b.places.7 (i4 + 1 + 1 + 1 + 1 + 1) s9 b.close)
              (λ s10. reads_bind ⊥ ts (expect m.CloseBracket) _ (i4 + 1 + 1 + 1 + 1 + 1 + 1) s10 (i4 + 1 + 1 + 1 + 1 + 1 + 1 + 1) to b.places.8 a (reads_expect ⊥ ts m.CloseBracket b.places.8 (i4 + 1 + 1 + 1 + 1 + 1 + 1) s10 b.bracket)
              (λ s11. reads_bind ⊥ ts (expect m.CloseBracket) _ (i4 + 1 + 1 + 1 + 1 + 1 + 1 + 1) s11 to to end a (reads_expect ⊥ ts m.CloseBracket end (i4 + 1 + 1 + 1 + 1 + 1 + 1 + 1) s11 b.last)
              (λ s12. reads_pure ⊥ ts a to s12))))))))))))),
        )

    attribute_token : {x : Attribute} {from to : ℕ} → AttributeAt ts x from to → (p : Place) × Stands ts from (k.Mark m.OpenBracket) p
    attribute_token (t.named {p = p} o i r) = (p, o)
    attribute_token (t.binding {p = p} o q b) = (p, o)

    -- their names are short
    short_before : {xs ys : List Attribute} {from to : ℕ} → AttributesAt ts xs ys from to → (most : ℕ) → greatest (map (λ x. attribute_name x.node) ys) ≤ most → greatest (map (λ x. attribute_name x.node) xs) ≤ most
    short_before (t.end q) most h = h
    short_before (t.more {x = x} {list = xs} r s) most h = let g = short_before s most h in omega (arith, g, greatest_last (λ y. attribute_name y.node) xs x)

    short_last : (xs : List Attribute) (x : Attribute) (most : ℕ) → greatest (map (λ y. attribute_name y.node) (xs ++ x ∷ [])) ≤ most → attribute_name x.node ≤ most
    short_last xs x most h = omega (arith, h, greatest_last (λ y. attribute_name y.node) xs x)

    -- those so far obey and are noted, where all do
    behind_front : {xs ys zs : List Attribute} {from to : ℕ} → AttributesAt ts zs ys from to → (list : Noted) → Unless limits.free (Obeyed aim ys) → Unless limits.free (Follows aim xs list) → Unless limits.free (Obeyed aim zs × Follows aim xs list)
    behind_front r list (inl e) f = inl e
    behind_front r list (inr o) (inl e) = inl e
    behind_front r list (inr o) (inr f) = inr (obeyed_before aim r o, f)

    attributes_from : {xs ys : List Attribute} {from to : ℕ} → AttributesAt ts xs ys from to → (count : ℕ) (list : Noted) → {d : ℕ} → Enough ts limits d → Unless limits.free (Obeyed aim ys) → Unless limits.free (Follows aim xs list) →
        greatest (map (λ x. attribute_name x.node) ys) ≤ limits.names → Left ts count from →
        (after : Noted) × ((limits.free || list_all (λ y. may_stand y.0 aim) after) ≡ true) × ((seen : ℕ) → Reads ⊥ (turns (sees m.OpenBracket) (attribute limits targets) count (xs, list)) ts from seen (ys, after) to)
    attributes_from {xs = xs} {from = from} (t.end q) count list u o f h l = (list, is_or limits.free (list_all (λ y. may_stand y.0 aim) list) (λ h. h.stand) f, λ seen. reads_turns_end ⊥ ts (sees m.OpenBracket) (attribute limits targets) count (xs, list) from seen q.is)
    attributes_from {from = from} (t.more r s) zero list u o f h l = absurd (left_none ts from _ (attribute_token r).1.is l)
    attributes_from {xs = xs} {ys = ys} {from = from} {to = to} (t.more {mid = mid} {x = x} r s) (suc count) list u o f h l =
        let one = attribute_read r xs list u (behind_front s list o f) (short_last xs x limits.names (short_before s limits.names h)) in
        let moves = attribute_moves ts r in
        let rest = attributes_from s count one.0 u o one.1 h (left_next ts count from mid moves l) in
        let b = attribute_token r in (
          rest.0,
          rest.1,
          λ seen. reads_turns_more ⊥ ts (sees m.OpenBracket) (attribute limits targets) count (xs, list) (xs ++ x ∷ [], one.0) (ys, rest.0) from seen mid to (is_there ts m.OpenBracket from b.0 b.1) (λ s1. one.2 s1) (λ s1. rest.2 s1),
        )

    pub attributes_read : {ys : List Attribute} {from to : ℕ} → AttributesAt ts [] ys from to → {d : ℕ} → Enough ts limits d → (limits.free || obeys aim ys) ≡ true → greatest (map (λ x. attribute_name x.node) ys) ≤ limits.names →
        (after : Noted) × ((limits.free || list_all (λ y. may_stand y.0 aim) after) ≡ true) × ((seen : ℕ) → Reads ⊥ (attributes limits targets) ts from seen (ys, after) to)
    unfolding attributes
    attributes_read {ys = ys} {from = from} r u o h = attributes_from r limits.turns [] u
        (unless_of limits.free (obeys aim ys) o (λ o. record { fit = and_left (list_all (fits aim) ys) (all_differ (kinds ys)) o; differ = and_right (list_all (fits aim) ys) (all_differ (kinds ys)) o }))
        (inr (record { new = λ a g. refl; stand = refl })) h (left_all u from)
