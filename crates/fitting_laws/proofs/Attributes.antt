-- Attributes: what is read obeys the rules, and no name is too long.
use Rattle.std.proofs.Common.{Bool, true, false, not, ◌≡◌, ℕ, ◌+◌, ◌≤◌, ◌||◌, ◌==◌, if◌then◌else◌, List, [], ◌∷◌, ◌++◌, map, codes, length, Option, Some, None, refl, sym, ◌∙◌, ap, subst, arith, eq-eqb, eqb-true}
use Rattle.std.specs.List.{list_all}
use Rattle.std.specs.Str.{bytes_eq}
use Rattle.slang_names.specs.declared.places.Place.{Place}
use Rattle.slang_names.specs.declared.codes.ModuleCode.TheVariants as code
use Rattle.slang_tree.specs.declared.types.Identifier.{Identifier}
use Rattle.slang_tree.specs.declared.statements.Attribute.{Attribute}
use Rattle.slang_tree.specs.declared.statements.AttributeNode.TheVariants as n
use Rattle.slang_tree.specs.declared.statements.Literal.{Literal}
use Rattle.slang_tree.specs.declared.statements.Literal.TheVariants as lit
use Rattle.slang_tokens.specs.declared.tokens.Kind.{Kind}
use Rattle.slang_tokens.specs.declared.tokens.Kind.TheVariants as k
use Rattle.slang_tokens.specs.declared.tokens.Mark.TheVariants as m
use Rattle.slang_reading.specs.Lexed.{Lexed}
use Rattle.slang_reading.specs.Reading.{Choice, Leave, Take, Refuse, Pass, pure, place_of, turns}
use Rattle.slang_reading.specs.Kinds.{sees, span}
use Rattle.slang_reading.proofs.Exact.{Post, PostChoice, post_bind, post_next, post_fits, post_turns, post_unit, post_weaken}
use Rattle.slang_grammar.specs.Descent.{Limits, expect, identifier, is_short, if_short}
use Rattle.slang_grammar.specs.Heights.{greatest}
use Rattle.slang_grammar.proofs.TypesFitting.{greatest_last}
use Rattle.statement_grammar.specs.declared.attributes.KnownAttribute.{KnownAttribute}
use Rattle.statement_grammar.specs.declared.attributes.KnownAttribute.TheVariants as known
use Rattle.statement_grammar.specs.declared.attributes.Target.{Target}
use Rattle.statement_grammar.specs.AttributeTables.{attribute_of, may_stand, attribute_code}
use Rattle.statement_grammar.specs.Attributes.{attributed, unquoted}
use Rattle.statement_grammar.specs.AttributeRules.{Want, wants_of, meets, all_meet, known_of, literals_of, fits_as, fits, same_attribute, all_differ, obeys}
use Rattle.statement_grammar.specs.AttributesDescent.{if_obeyed, Given, Literals, Noted, wanted, later, wants_more, with_literal, literal_by, literal_at, literal, comma_by, literal_more, close_by, close, literals, rest_by, attribute_rest, possible, has, admits, spelled, number, named, binding_rest, binding_by, binding_at, binding, attribute_by, attribute_at, attribute, attributes}
use Rattle.statement_grammar.proofs.Shared.{post_take}
use Rattle.statement_fits.specs.Sizes.{in_attributes, attribute_name, Keeps}
use Rattle.statement_fits.proofs.Fitting.{and_left, and_right, and_both}
use Rattle.statement_fits.proofs.Attributes.{all_front, all_last, all_longer, kinds, kinds_longer}
use Rattle.nesting_laws.proofs.TypesLow.{or_is, Any}
use Rattle.fitting_laws.proofs.Sizes.{short_enough}

-- what goes on obeys the rule
pub obeyed_goes : {A : Type 0} (ts : List Lexed) (Q : A → ℕ → Type 0) (at : ℕ) (x : Option Lexed) (b : Bool) (p : Place) (c : Choice A) → (b ≡ true → PostChoice ts Q at x c) → PostChoice ts Q at x (if_obeyed b p c)
obeyed_goes ts Q at x true p c h = h refl
obeyed_goes ts Q at x false p (Leave q) h = tt
obeyed_goes ts Q at x false p (Take q) h = tt
obeyed_goes ts Q at x false p Refuse h = tt
obeyed_goes ts Q at x false p (Pass other there) h = tt

-- ---- lists with one more

append_one : {A : Type 0} (xs : List A) (x : A) (ys : List A) → (xs ++ x ∷ []) ++ ys ≡ xs ++ x ∷ ys
append_one [] x ys = refl
append_one (z ∷ zs) x ys = ap (λ l. z ∷ l) (append_one zs x ys)

append_none : {A : Type 0} (xs : List A) → xs ++ [] ≡ xs
append_none [] = refl
append_none (z ∷ zs) = ap (λ l. z ∷ l) (append_none zs)

differ_longer : (xs : List (Option KnownAttribute)) (x : Option KnownAttribute) → all_differ xs ≡ true → list_all (λ y. not (same_attribute y x)) xs ≡ true → all_differ (xs ++ x ∷ []) ≡ true
differ_longer [] x h g = refl
differ_longer (y ∷ ys) x h g = let f : Option KnownAttribute → Bool = λ z. not (same_attribute y z) in
    let r : Bool = list_all (λ z. not (same_attribute z x)) ys in
    and_both (list_all f (ys ++ x ∷ [])) (all_differ (ys ++ x ∷ [])) (all_longer f ys x (and_left (list_all f ys) (all_differ ys) h) (and_left (f x) r g))
    (differ_longer ys x (and_right (list_all f ys) (all_differ ys) h) (and_right (f x) r g))

-- ---- literals

-- what stands behind those and meets what is left makes all that is wanted
abbrev Meeting : List Want → Literals → Type 0
Meeting wants r = (rest : List Literal) → all_meet r.1 rest ≡ true → all_meet wants (r.0 ++ rest) ≡ true

meet_one : (wants : List Want) (x : Literal) (rest : List Literal) → wanted wants x ≡ true → all_meet (later wants) rest ≡ true → all_meet wants (x ∷ rest) ≡ true
meet_one [] x rest h g = cc
meet_one (y ∷ ys) x rest h g = and_both (meets y x) (all_meet ys rest) h g

meeting_longer : (wants : List Want) (r : Literals) (x : Literal) → wanted r.1 x ≡ true → Meeting wants r → Meeting wants (r.0 ++ x ∷ [], later r.1)
meeting_longer wants r x h f rest g = ap (all_meet wants) (append_one r.0 x rest) ∙ f (x ∷ rest) (meet_one r.1 x rest h g)

none_wanted : (wants : List Want) → not (wants_more wants) ≡ true → all_meet wants [] ≡ true
none_wanted [] h = refl
none_wanted (y ∷ ys) h = cc

meeting_ends : (wants : List Want) (r : Literals) → not (wants_more r.1) ≡ true → Meeting wants r → all_meet wants r.0 ≡ true
meeting_ends wants r h f = sym (ap (all_meet wants) (append_none r.0)) ∙ f [] (none_wanted r.1 h)

module _ (ts : List Lexed) (limits : Limits) (is_free : limits.free ≡ false) (place : Place) where
  obeyed : {A : Type 0} (Q : A → ℕ → Type 0) (at : ℕ) (x : Option Lexed) (b : Bool) (c : Choice A) → (b ≡ true → PostChoice ts Q at x c) → PostChoice ts Q at x (if_obeyed (limits.free || b) place c)
  obeyed Q at x b c h = obeyed_goes ts Q at x (limits.free || b) place c (λ q. h (or_is limits.free b is_free q))

  abbrev Grows : Literals → Literals → ℕ → ℕ → Type 0
  Grows r longer from to = (wants : List Want) → Meeting wants r → Meeting wants longer

  fit_with : (r : Literals) (from at : ℕ) (tok : Lexed) (x : Literal) → PostChoice ts (λ longer to. Grows r longer from to) at (Some tok) (with_literal limits place r x)
  fit_with r from at tok x = obeyed (λ longer to. Grows r longer from to) at (Some tok) (wanted r.1 x) (Take (pure (r.0 ++ x ∷ [], later r.1))) (λ h s1 wants f. meeting_longer wants r x h f)

  fit_literal : (r : Literals) (from at seen : ℕ) → Post (λ longer to. Grows r longer from to) (literal limits place r ts at seen)
  unfolding literal
  fit_literal r from at seen = post_next ts (λ longer to. Grows r longer from to) (literal_at limits place r) at seen (λ x e. go x)
    where
      by : (tok : Lexed) (kind : Kind) → PostChoice ts (λ longer to. Grows r longer from to) at (Some tok) (literal_by limits place r tok kind)
      by tok (k.Number v) = fit_with r from at tok (lit.Number tok.place v)
      by tok k.String = fit_with r from at tok (lit.String tok.place (unquoted tok.bytes))
      by tok k.Name = tt
      by tok (k.Word word) = tt
      by tok (k.Mark mark) = tt

      go : (x : Option Lexed) → PostChoice ts (λ longer to. Grows r longer from to) at x (literal_at limits place r x)
      go (Some tok) = by tok tok.kind
      go None = tt

  fit_literal_more : (r : Literals) (at seen : ℕ) → Post (λ longer to. Grows r longer at to) (literal_more limits place r ts at seen)
  unfolding literal_more
  fit_literal_more r at seen = post_next ts (λ longer to. Grows r longer at to) _ at seen (λ x e. by x (sees m.Comma x))
    where
      by : (x : Option Lexed) (b : Bool) → PostChoice ts (λ longer to. Grows r longer at to) at x (comma_by limits place r b)
      by x true = obeyed (λ longer to. Grows r longer at to) at x (wants_more r.1) (Take (literal limits place r)) (λ h. post_take ts (λ longer to. Grows r longer at to) at x (literal limits place r) (λ s1. fit_literal r at (at + 1) s1))
      by x false = tt

  abbrev Ends : Literals → List Literal → ℕ → Type 0
  Ends r list to = (wants : List Want) → Meeting wants r → all_meet wants list ≡ true

  fit_close : (r : Literals) (at seen : ℕ) → Post (Ends r) (close limits place r ts at seen)
  unfolding close
  fit_close r at seen = post_next ts (Ends r) _ at seen (λ x e. by x (sees m.CloseParen x))
    where
      by : (x : Option Lexed) (b : Bool) → PostChoice ts (Ends r) at x (close_by limits place r b)
      by x true = obeyed (Ends r) at x (not (wants_more r.1)) (Take (pure r.0)) (λ h. post_take ts (Ends r) at x (pure r.0) (λ s1 wants f. meeting_ends wants r h f))
      by x false = tt

  abbrev MeetsAll : List Want → List Literal × Place → ℕ → Type 0
  MeetsAll wants a to = all_meet wants a.0 ≡ true

  fit_literals : (wants : List Want) (at seen : ℕ) → Post (MeetsAll wants) (literals limits place wants ts at seen)
  unfolding literals
  fit_literals wants at seen = post_bind ts (λ longer to. Grows ([], wants) longer at to) (MeetsAll wants) (literal limits place ([], wants)) _ at seen (fit_literal ([], wants) at at seen)
      (λ x mid s1 f. post_bind ts (λ all to. Grows x all mid to) (MeetsAll wants) (turns (sees m.Comma) (literal_more limits place) limits.turns x) _ mid s1
      (post_turns ts Grows Grows (sees m.Comma) (literal_more limits place) (λ a at wants q. q) (λ a b c from mid to o q wants r. q wants (o wants r)) (λ a from s e. fit_literal_more a from s) limits.turns x mid s1)
      (λ all mid2 s2 g. post_bind ts (Ends all) (MeetsAll wants) (close limits place all) _ mid2 s2 (fit_close all mid2 s2)
      (λ list mid3 s3 c. post_bind ts Any (MeetsAll wants) (expect m.CloseBracket) _ mid3 s3 (post_unit (expect m.CloseBracket ts mid3 s3))
      (λ end to s4 z. c wants (g wants (f wants (λ rest q. q)))))))

  fit_attribute_rest : (wants : List Want) (at seen : ℕ) → Post (MeetsAll wants) (attribute_rest limits place wants ts at seen)
  unfolding attribute_rest
  fit_attribute_rest wants at seen = post_next ts (MeetsAll wants) _ at seen (λ x e. by x (sees m.OpenParen x) (sees m.CloseBracket x))
    where
      by : (x : Option Lexed) (b c : Bool) → PostChoice ts (MeetsAll wants) at x (rest_by limits place wants x b c)
      by x true c = obeyed (MeetsAll wants) at x (wants_more wants) (Take (literals limits place wants)) (λ h. post_take ts (MeetsAll wants) at x (literals limits place wants) (λ s1. fit_literals wants (at + 1) s1))
      by x false true = obeyed (MeetsAll wants) at x (not (wants_more wants)) (Take (pure ([], place_of x))) (λ h. post_take ts (MeetsAll wants) at x (pure ([], place_of x)) (λ s1. none_wanted wants h))
      by x false false = tt

-- ---- attributes

has_longer : (a b : KnownAttribute) (p : Place) (list : Noted) → has a (list ++ (b, p) ∷ []) ≡ false → (has a list ≡ false) × ((attribute_code a == attribute_code b) ≡ false)
has_longer a b p [] h = by (attribute_code a == attribute_code b) h
  where
    by : (c : Bool) → (c || false) ≡ false → (false ≡ false) × (c ≡ false)
    by true q = cc
    by false q = (refl, refl)
has_longer a b p (y ∷ ys) h = by (attribute_code a == attribute_code y.0) (λ q. has_longer a b p ys q) h
  where
    by : (c : Bool) → (has a (ys ++ (b, p) ∷ []) ≡ false → (has a ys ≡ false) × ((attribute_code a == attribute_code b) ≡ false)) → (c || has a (ys ++ (b, p) ∷ [])) ≡ false → ((c || has a ys) ≡ false) × ((attribute_code a == attribute_code b) ≡ false)
    by true rest q = cc
    by false rest q = rest q

not_same : (a b : ℕ) → (a == b) ≡ false → not (b == a) ≡ true
not_same a b h = by (b == a) refl
  where
    by : (c : Bool) → (b == a) ≡ c → not c ≡ true
    by true q = let z = sym (eq-eqb a b (sym (eqb-true b a q))) ∙ h in cc
    by false q = refl

is_not : (b : Bool) → not b ≡ true → b ≡ false
is_not true h = cc
is_not false h = refl

module _ (limits : Limits) (targets : List Target) where
  -- what is known of attributes that are given
  pub record Taken (given : Given) : Type 0 where
    pub fit : (aim : Target) → list_all (λ y. may_stand y.0 aim) given.1 ≡ true → list_all (fits aim) given.0 ≡ true
    pub differ : all_differ (map (λ x. known_of x.node) given.0) ≡ true
    pub new : (a : KnownAttribute) → has a given.1 ≡ false → list_all (λ y. not (same_attribute y (Some a))) (map (λ x. known_of x.node) given.0) ≡ true
    pub some : possible targets given.1 ≡ true
    pub short : greatest (map (λ x. attribute_name x.node) given.0) ≤ limits.names

  taken_longer : (given : Given) (x : Attribute) (a : KnownAttribute) (p : Place) → known_of x.node ≡ Some a → admits targets given.1 (Some a) p ≡ true → all_meet (wants_of (Some a)) (literals_of x.node) ≡ true →
      attribute_name x.node ≤ limits.names → Taken given → Taken (given.0 ++ x ∷ [], given.1 ++ (a, p) ∷ [])
  taken_longer given x a p e ad me sh t =
      let nh : has a given.1 ≡ false = is_not (has a given.1) (and_left (not (has a given.1)) (possible targets (given.1 ++ (a, p) ∷ [])) ad) in
      record {
        fit = λ aim h. all_longer (fits aim) given.0 x (t.fit aim (all_front (λ y. may_stand y.0 aim) given.1 (a, p) h))
            (ap (λ o. fits_as aim o (literals_of x.node)) e ∙ and_both (may_stand a aim) (all_meet (wants_of (Some a)) (literals_of x.node)) (all_last (λ y. may_stand y.0 aim) given.1 (a, p) h) me);
        differ = ap all_differ (kinds_longer given.0 x) ∙ differ_longer (kinds given.0) (known_of x.node) t.differ (subst (λ o. list_all (λ y. not (same_attribute y o)) (kinds given.0) ≡ true) (sym e) (t.new a nh));
        new = λ b h. let g = has_longer b a p given.1 h in ap (list_all (λ y. not (same_attribute y (Some b)))) (kinds_longer given.0 x) ∙
            all_longer (λ y. not (same_attribute y (Some b))) (kinds given.0) (known_of x.node) (t.new b g.0)
            (ap (λ o. not (same_attribute o (Some b))) e ∙ not_same (attribute_code b) (attribute_code a) g.1);
        some = and_right (not (has a given.1)) (possible targets (given.1 ++ (a, p) ∷ [])) ad;
        short = let s = t.short in omega (arith, s, sh, greatest_last (λ y. attribute_name y.node) given.0 x);
      }

  pub taken_none : possible targets [] ≡ true → Taken ([], [])
  taken_none h = record { fit = λ aim g. refl; differ = refl; new = λ a g. refl; some = h; short = omega arith }

  -- together before such a thing
  pub taken_obeys : (given : Given) (aim : Target) → Taken given → list_all (λ y. may_stand y.0 aim) given.1 ≡ true → obeys aim given.0 ≡ true
  taken_obeys given aim t h = and_both (list_all (fits aim) given.0) (all_differ (kinds given.0)) (t.fit aim h) t.differ

  module _ (ts : List Lexed) (is_free : limits.free ≡ false) where
    abbrev Longer : Given → Given → ℕ → ℕ → Type 0
    Longer a b from to = Taken a → Taken b

    module _ (given : Given) where
      fit_named : (begin : Place) (id : Identifier) (o : Option KnownAttribute) (from at seen : ℕ) → attribute_of id.name ≡ o → admits targets given.1 o id.place ≡ true → length id.name ≤ limits.names →
          Post (λ b to. Longer given b from to) (named limits targets given begin id o ts at seen)
      unfolding named
      fit_named begin id (Some a) from at seen e ad sh = post_bind ts (λ r to. all_meet (wants_of (Some a)) r.0 ≡ true) (λ b to. Longer given b from to) (attribute_rest limits id.place (wants_of (Some a))) _ at seen
          (fit_attribute_rest ts limits is_free id.place (wants_of (Some a)) at seen)
          (λ r to s1 w t. taken_longer given (attributed (span begin r.1) (n.Named id r.0)) a id.place e ad w sh t)
      fit_named begin id None from at seen e ad sh = cc

      fit_binding_rest : (begin place : Place) (from at seen : ℕ) → admits targets given.1 (Some known.Binding) place ≡ true → Post (λ b to. Longer given b from to) (binding_rest limits targets given begin place ts at seen)
      unfolding binding_rest
      fit_binding_rest begin place from at seen ad =
          let Q : Given → ℕ → Type 0 = λ b to. Longer given b from to in
          post_bind ts Any Q (expect m.OpenParen) _ at seen (post_unit (expect m.OpenParen ts at seen))
          (λ p1 a1 s1 u1. post_bind ts Any Q number _ a1 s1 (post_unit (number ts a1 s1))
          (λ x a2 s2 u2. post_bind ts Any Q (expect m.Comma) _ a2 s2 (post_unit (expect m.Comma ts a2 s2))
          (λ p3 a3 s3 u3. post_bind ts Any Q number _ a3 s3 (post_unit (number ts a3 s3))
          (λ y a4 s4 u4. post_bind ts Any Q (expect m.CloseParen) _ a4 s4 (post_unit (expect m.CloseParen ts a4 s4))
          (λ p5 a5 s5 u5. post_bind ts Any Q (expect m.CloseBracket) _ a5 s5 (post_unit (expect m.CloseBracket ts a5 s5))
          (λ p6 a6 s6 u6. post_bind ts Any Q (expect m.CloseBracket) _ a6 s6 (post_unit (expect m.CloseBracket ts a6 s6))
          (λ end to s7 u7 t. taken_longer given (attributed (span begin end) (n.Binding x y)) known.Binding place refl ad refl (omega arith) t)))))))

      fit_binding : (begin : Place) (from at seen : ℕ) → Post (λ b to. Longer given b from to) (binding limits targets given begin ts at seen)
      unfolding binding
      fit_binding begin from at seen = let Q : Given → ℕ → Type 0 = λ b to. Longer given b from to in
          post_bind ts Any Q (spelled (codes "vk")) _ at seen (post_unit (spelled (codes "vk") ts at seen))
          (λ p a1 s1 u1. post_bind ts Any Q (expect m.DoubleColon) _ a1 s1 (post_unit (expect m.DoubleColon ts a1 s1))
          (λ r a2 s2 u2. post_next ts Q (binding_at limits targets given begin p) a2 s2 (λ x e. go p a2 x)))
        where
          test : (p : Place) (mid : ℕ) (tok : Lexed) (b : Bool) → PostChoice ts (λ b to. Longer given b from to) mid (Some tok)
              (if b then if_obeyed (limits.free || admits targets given.1 (Some known.Binding) (span p tok.place)) (span p tok.place) (Take (binding_rest limits targets given begin (span p tok.place))) else Refuse)
          test p mid tok true = obeyed ts limits is_free (span p tok.place) (λ b to. Longer given b from to) mid (Some tok) (admits targets given.1 (Some known.Binding) (span p tok.place))
              (Take (binding_rest limits targets given begin (span p tok.place))) (λ ad s3. fit_binding_rest begin (span p tok.place) from (mid + 1) s3 ad)
          test p mid tok false = tt

          by : (p : Place) (mid : ℕ) (tok : Lexed) (kind : Kind) → PostChoice ts (λ b to. Longer given b from to) mid (Some tok) (binding_by limits targets given begin p tok kind)
          by p mid tok k.Name = test p mid tok (bytes_eq (codes "binding") tok.bytes)
          by p mid tok (k.Word word) = tt
          by p mid tok (k.Number x) = tt
          by p mid tok k.String = tt
          by p mid tok (k.Mark mark) = tt

          go : (p : Place) (mid : ℕ) (x : Option Lexed) → PostChoice ts (λ b to. Longer given b from to) mid x (binding_at limits targets given begin p x)
          go p mid (Some tok) = by p mid tok tok.kind
          go p mid None = tt

      fit_attribute_by : (begin : Place) (from at : ℕ) (tok : Lexed) (kind : Kind) → PostChoice ts (λ b to. Longer given b from to) at (Some tok) (attribute_by limits targets given begin tok kind)
      fit_attribute_by begin from at tok k.Name =
          let rest = named limits targets given begin (identifier tok) (attribute_of tok.bytes) in
          obeyed ts limits is_free tok.place (λ b to. Longer given b from to) at (Some tok) (admits targets given.1 (attribute_of tok.bytes) tok.place) (if_short limits tok (Take rest))
          (λ ad. post_fits ts (λ b to. Longer given b from to) at (Some tok) (is_short limits tok) code.TooLong (Take rest)
          (λ f s1. fit_named begin (identifier tok) (attribute_of tok.bytes) from (at + 1) s1 refl ad (short_enough limits tok is_free f)))
      fit_attribute_by begin from at tok (k.Mark m.OpenBracket) = λ s1. fit_binding begin from (at + 1) s1
      fit_attribute_by begin from at tok (k.Word word) = tt
      fit_attribute_by begin from at tok (k.Number x) = tt
      fit_attribute_by begin from at tok k.String = tt
      fit_attribute_by begin from at tok (k.Mark _) = tt

      fit_attribute : (at seen : ℕ) → Post (λ b to. Longer given b at to) (attribute limits targets given ts at seen)
      unfolding attribute
      fit_attribute at seen = post_bind ts Any (λ b to. Longer given b at to) (expect m.OpenBracket) _ at seen (post_unit (expect m.OpenBracket ts at seen))
          (λ p mid s1 o. post_next ts (λ b to. Longer given b at to) (attribute_at limits targets given p) mid s1 (λ x e. go p mid x))
        where
          go : (p : Place) (mid : ℕ) (x : Option Lexed) → PostChoice ts (λ b to. Longer given b at to) mid x (attribute_at limits targets given p x)
          go p mid (Some tok) = fit_attribute_by p at mid tok tok.kind
          go p mid None = tt

    pub taken_attributes : possible targets [] ≡ true → (at seen : ℕ) → Post (λ (a : Given) (to : ℕ). Taken a) (attributes limits targets ts at seen)
    unfolding attributes
    taken_attributes h at seen = post_weaken (λ (a : Given) to. Longer ([], []) a at to) (λ (a : Given) to. Taken a) (λ a to g. g (taken_none h)) (turns (sees m.OpenBracket) (attribute limits targets) limits.turns ([], []) ts at seen)
        (post_turns ts Longer Longer (sees m.OpenBracket) (attribute limits targets) (λ a at t. t) (λ a b c from mid to o q t. q (o t)) (λ a from s e. fit_attribute a from s) limits.turns ([], []) at seen)

-- names of attributes are no nodes and no lists
none_of_all : (list : List Attribute) → greatest (map (λ (x : Attribute). 0) list) ≡ 0
none_of_all [] = refl
none_of_all (x ∷ xs) = let h = none_of_all xs in omega (arith, h)

pub attributes_keep : (limits : Limits) (d : ℕ) (list : List Attribute) → greatest (map (λ x. attribute_name x.node) list) ≤ limits.names → Keeps limits d (λ count. in_attributes count list)
attributes_keep limits d list h = record { depth = omega (arith, none_of_all list); long = omega (arith, none_of_all list); short = h }
