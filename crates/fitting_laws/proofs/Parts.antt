-- Parts of declarations: what is read is within the limits.
use Rattle.std.proofs.Common.{Bool, true, false, ◌≡◌, ℕ, ◌+◌, ◌≤◌, ◌&&◌, max, List, [], ◌∷◌, ◌++◌, map, length, length-append, Option, Some, None, refl, arith, if◌then◌else◌}
use Rattle.std.specs.List.{list_all}
use Rattle.slang_names.specs.declared.places.Place.{Place}
use Rattle.slang_names.specs.declared.places.Mode.{Mode}
use Rattle.slang_names.specs.declared.codes.ModuleCode.TheVariants as code
use Rattle.slang_tree.specs.declared.types.Identifier.{Identifier}
use Rattle.slang_tree.specs.declared.types.TypeTree.{TypeTree}
use Rattle.slang_tree.specs.declared.declarations.GenericParameter.{GenericParameter}
use Rattle.slang_tree.specs.declared.declarations.Constraint.{Constraint}
use Rattle.slang_tree.specs.declared.declarations.Parameter.{Parameter}
use Rattle.slang_tokens.specs.declared.tokens.Kind.{Kind}
use Rattle.slang_tokens.specs.declared.tokens.Kind.TheVariants as k
use Rattle.slang_tokens.specs.declared.tokens.Mark.TheVariants as m
use Rattle.slang_tokens.specs.declared.tokens.Word.{Word}
use Rattle.slang_tokens.specs.declared.tokens.Word.TheVariants as w
use Rattle.slang_reading.specs.Lexed.{Lexed}
use Rattle.slang_reading.specs.Reading.{Choice, Take, turns}
use Rattle.slang_reading.specs.Kinds.{is_word, sees, sees_word}
use Rattle.slang_reading.proofs.Exact.{Post, PostChoice, post_bind, post_next, post_fits, post_turns, post_unit, post_weaken}
use Rattle.slang_grammar.specs.Descent.{Limits, fits_in, expect, name, identifier, is_short}
use Rattle.slang_grammar.specs.Heights.{greatest}
use Rattle.slang_grammar.specs.TypesDescent.{Type_, types}
use Rattle.statement_grammar.specs.declared.attributes.Target.{Target}
use Rattle.statement_grammar.specs.AttributeTables.{may_stand}
use Rattle.statement_grammar.specs.AttributeRules.{all_true}
use Rattle.statement_grammar.specs.AttributesDescent.{Noted, misfit, suited, if_suits}
use Rattle.statement_grammar.specs.StatementsDescent.{Named, declared_name}
use Rattle.statement_grammar.proofs.Shared.{post_take}
use Rattle.declaration_grammar.specs.declared.tables.DeclarationUse.{DeclarationUse}
use Rattle.declaration_grammar.specs.declared.tables.DeclarationUse.TheVariants as u
use Rattle.declaration_grammar.specs.Tables.{declaration_use, mode_of}
use Rattle.declaration_grammar.specs.PartsDescent.{expect_word, Listed, name_behind, names, bound_by, bound_rest, number_rest, generic_word, generic_by, generic_at, generic, generic_more, generics_rest, generics_by, generics, heads_by, heads, constraint_more, constraints, Semantic, semantic_by, semantic, parameter_rest, plain_parameter, moded_parameter, plain_as, parameter_word, parameter_by, parameter_at, parameter, parameter_more, some_parameters, parameters_by, parameters}
use Rattle.statement_fits.specs.Sizes.{Count, optional, Keeps}
use Rattle.statement_fits.proofs.Fitting.{and_left, and_right, and_both}
use Rattle.declaration_fits.specs.Sizes.{in_items, in_generic, in_constraint, in_parameter}
use Rattle.nesting_laws.proofs.TypesLow.{fits_less, Any}
use Rattle.fitting_laws.proofs.Sizes.{short_enough}
use Rattle.fitting_laws.proofs.Types.{choice_weaken, short_name}
use Rattle.fitting_laws.proofs.Within.{nothing_keeps, both_keep, All, keep_none, keep_more, keep_one, keep_types}
use Rattle.fitting_laws.proofs.Attributes.{obeyed_goes}
use Rattle.fitting_laws.proofs.Locals.{keep_declared}

-- ---- attributes that suit what they stand before

no_misfit : (v : Target) (list : Noted) → misfit v list ≡ None → list_all (λ y. may_stand y.0 v) list ≡ true
no_misfit v [] e = refl
no_misfit v (x ∷ xs) e = by (may_stand x.0 v) (λ q. no_misfit v xs q) e
  where
    by : (b : Bool) → (misfit v xs ≡ None → list_all (λ y. may_stand y.0 v) xs ≡ true) → (if b then misfit v xs else Some x.1) ≡ None → (b && list_all (λ y. may_stand y.0 v) xs) ≡ true
    by true rest q = rest q
    by false rest q = cc

pub suits_goes : {A : Type 0} (ts : List Lexed) (limits : Limits) → limits.free ≡ false → (Q : A → ℕ → Type 0) (at : ℕ) (x : Option Lexed) (v : Target) (list : Noted) (c : Choice A) →
    (list_all (λ y. may_stand y.0 v) list ≡ true → PostChoice ts Q at x c) → PostChoice ts Q at x (if_suits limits v list c)
suits_goes ts limits is_free Q at x v list c h = by limits.free is_free (misfit v list) refl
  where
    by : (b : Bool) → b ≡ false → (o : Option Place) → misfit v list ≡ o → PostChoice ts Q at x (suited b o c)
    by true q o e = cc
    by false q None e = h (no_misfit v list e)
    by false q (Some p) e = obeyed_goes ts Q at x false p c (λ z. cc)

-- ---- lists that are not too long

module _ (limits : Limits) (d : ℕ) where
  pub identifier_keeps : (id : Identifier) → length id.name ≤ limits.names → Keeps limits d (λ count. count.of_identifier id)
  identifier_keeps id h = record { depth = omega arith; long = omega arith; short = h }

  length_keeps : (n : ℕ) → n ≤ limits.items → Keeps limits d (λ count. count.of_length n)
  length_keeps n h = record { depth = omega arith; long = h; short = omega arith }

  module _ {A : Type 0} (f : Count → A → ℕ) where
    abbrev pub Short : List A → Type 0
    Short list = (length list ≤ limits.items) × All limits f d list

    pub short_none : Short []
    short_none = (omega arith, keep_none limits f d)

    pub short_one : (x : A) → 1 ≤ limits.items → Keeps limits d (λ count. f count x) → Short (x ∷ [])
    short_one x l w = (omega (arith, l), keep_one limits f d x w)

    pub short_more : (xs : List A) (x : A) → length xs + 1 ≤ limits.items → Keeps limits d (λ count. f count x) → Short xs → Short (xs ++ x ∷ [])
    short_more xs x l w v = (omega (arith, l, length-append xs (x ∷ [])), keep_more limits f d xs x v.1 w)

    pub short_keeps : (xs : List A) → Short xs → Keeps limits d (λ count. in_items count (f count) xs)
    short_keeps xs v = both_keep limits d (λ count. count.of_length (length xs)) (λ count. greatest (map (f count) xs)) (length_keeps (length xs) v.0) v.1

-- all of which obey a rule
pub rule_longer : {A : Type 0} (rule : A → Bool) (xs : List A) (x : A) → all_true (map rule xs) ≡ true → rule x ≡ true → all_true (map rule (xs ++ x ∷ [])) ≡ true
rule_longer rule [] x h g = and_both (rule x) true g refl
rule_longer rule (y ∷ ys) x h g = and_both (rule y) (all_true (map rule (ys ++ x ∷ []))) (and_left (rule y) (all_true (map rule ys)) h) (rule_longer rule ys x (and_right (rule y) (all_true (map rule ys)) h) g)

module _ (ts : List Lexed) (limits : Limits) (is_free : limits.free ≡ false) (d : ℕ) where
  abbrev IsName : Identifier → ℕ → Type 0
  IsName id to = Keeps limits d (λ count. count.of_identifier id)

  pub keep_name : (at seen : ℕ) → Post (λ (id : Identifier) (to : ℕ). Keeps limits d (λ count. count.of_identifier id)) (name limits ts at seen)
  keep_name at seen = post_weaken (λ (id : Identifier) (to : ℕ). length id.name ≤ limits.names) IsName (λ id to h. identifier_keeps limits d id h) (name limits ts at seen) (short_name ts limits is_free at seen)

  -- ---- names behind commas

  abbrev HasNames : List Identifier → Type 0
  HasNames list = Keeps limits d (λ count. greatest (map count.of_identifier list))

  abbrev MoreNames : Listed limits → Listed limits → ℕ → ℕ → Type 0
  MoreNames a b from to = HasNames a.0 → HasNames b.0

  keep_name_behind : (a : Listed limits) (at seen : ℕ) → Post (λ b to. MoreNames a b at to) (name_behind limits a ts at seen)
  unfolding name_behind
  keep_name_behind a at seen = post_bind ts Any (λ b to. MoreNames a b at to) (expect m.Comma) _ at seen (post_unit (expect m.Comma ts at seen))
      (λ p a1 s1 o. post_bind ts IsName (λ b to. MoreNames a b at to) (name limits) _ a1 s1 (keep_name a1 s1) (λ id to s2 h r. keep_more limits (λ count x. count.of_identifier x) d a.0 id r h))

  abbrev IsNames : Listed limits → ℕ → Type 0
  IsNames a to = HasNames a.0

  keep_names : (at seen : ℕ) → Post IsNames (names limits ts at seen)
  unfolding names
  keep_names at seen = post_bind ts IsName IsNames (name limits) _ at seen (keep_name at seen)
      (λ id mid s1 h. post_weaken (λ b to. MoreNames (id ∷ [], id.place) b mid to) IsNames (λ b to q. q (keep_one limits (λ count x. count.of_identifier x) d id h)) (turns (sees m.Comma) (name_behind limits) limits.turns (id ∷ [], id.place) ts mid s1)
      (post_turns ts MoreNames MoreNames (sees m.Comma) (name_behind limits) (λ a at r. r) (λ a b c from mid to i q r. q (i r)) (λ a from s e. keep_name_behind a from s) limits.turns (id ∷ [], id.place) mid s1))

  -- ---- generic parameters

  abbrev IsGeneric : GenericParameter → ℕ → Type 0
  IsGeneric x to = Keeps limits d (λ count. in_generic count x)

  keep_bound_rest : (id : Identifier) (at seen : ℕ) → Keeps limits d (λ count. count.of_identifier id) → Post IsGeneric (bound_rest limits id ts at seen)
  unfolding bound_rest
  keep_bound_rest id at seen h = post_next ts IsGeneric _ at seen (λ x e. by x (sees m.Colon x))
    where
      by : (x : Option Lexed) (b : Bool) → PostChoice ts IsGeneric at x (bound_by limits id b)
      by x true = post_take ts IsGeneric at x _ (λ s. post_bind ts IsName IsGeneric (name limits) _ (at + 1) s (keep_name (at + 1) s) (λ b to s1 g. both_keep limits d (λ count. count.of_identifier id) (λ count. count.of_identifier b) h g))
      by x false = λ s. both_keep limits d (λ count. count.of_identifier id) (λ count. 0) h (nothing_keeps limits d)

  keep_number_rest : (begin : Place) (at seen : ℕ) → Post IsGeneric (number_rest limits begin ts at seen)
  unfolding number_rest
  keep_number_rest begin at seen = post_bind ts IsName IsGeneric (name limits) _ at seen (keep_name at seen)
      (λ id a1 s1 h. post_bind ts Any IsGeneric (expect m.Colon) _ a1 s1 (post_unit (expect m.Colon ts a1 s1))
      (λ p a2 s2 o. post_bind ts Any IsGeneric (expect_word w.Int) _ a2 s2 (post_unit (expect_word w.Int ts a2 s2)) (λ end to s3 z. h)))

  keep_generic_by : (at : ℕ) (tok : Lexed) (kind : Kind) → PostChoice ts IsGeneric at (Some tok) (generic_by limits tok kind)
  keep_generic_by at tok k.Name = post_fits ts IsGeneric at (Some tok) (is_short limits tok) code.TooLong (Take (bound_rest limits (identifier tok)))
      (λ f s. keep_bound_rest (identifier tok) (at + 1) s (identifier_keeps limits d (identifier tok) (short_enough limits tok is_free f)))
  keep_generic_by at tok (k.Word word) = by (is_word w.Let (k.Word word))
    where
      by : (b : Bool) → PostChoice ts IsGeneric at (Some tok) (generic_word limits tok b)
      by true = λ s. keep_number_rest tok.place (at + 1) s
      by false = tt
  keep_generic_by at tok (k.Number v) = tt
  keep_generic_by at tok k.String = tt
  keep_generic_by at tok (k.Mark mark) = tt

  abbrev NextGeneric : ℕ → GenericParameter → ℕ → Type 0
  NextGeneric count x to = (count + 1 ≤ limits.items) × Keeps limits d (λ c. in_generic c x)

  keep_generic : (count at seen : ℕ) → Post (NextGeneric count) (generic limits count ts at seen)
  unfolding generic
  keep_generic count at seen = post_next ts (NextGeneric count) _ at seen (λ x e. post_fits ts (NextGeneric count) at x (fits_in limits count limits.items) code.TooLong (generic_at limits x)
      (λ f. choice_weaken ts IsGeneric (NextGeneric count) (λ a to r. (fits_less limits count limits.items is_free f, r)) at x (generic_at limits x) (go x)))
    where
      go : (x : Option Lexed) → PostChoice ts IsGeneric at x (generic_at limits x)
      go (Some tok) = keep_generic_by at tok tok.kind
      go None = tt

  abbrev MoreGenerics : List GenericParameter → List GenericParameter → ℕ → ℕ → Type 0
  MoreGenerics a b from to = Short limits d in_generic a → Short limits d in_generic b

  keep_generic_more : (a : List GenericParameter) (at seen : ℕ) → Post (λ b to. MoreGenerics a b at to) (generic_more limits a ts at seen)
  unfolding generic_more
  keep_generic_more a at seen = post_bind ts Any (λ b to. MoreGenerics a b at to) (expect m.Comma) _ at seen (post_unit (expect m.Comma ts at seen))
      (λ p a1 s1 o. post_bind ts (NextGeneric (length a)) (λ b to. MoreGenerics a b at to) (generic limits (length a)) _ a1 s1 (keep_generic (length a) a1 s1) (λ x to s2 r v. short_more limits d in_generic a x r.0 r.1 v))

  abbrev HasGenerics : List GenericParameter → ℕ → Type 0
  HasGenerics list to = Keeps limits d (λ count. in_items count (in_generic count) list)

  keep_generics_rest : (at seen : ℕ) → Post HasGenerics (generics_rest limits ts at seen)
  unfolding generics_rest
  keep_generics_rest at seen = post_bind ts (NextGeneric 0) HasGenerics (generic limits 0) _ at seen (keep_generic 0 at seen)
      (λ x a1 s1 r. post_bind ts (λ all to. MoreGenerics (x ∷ []) all a1 to) HasGenerics (turns (sees m.Comma) (generic_more limits) limits.turns (x ∷ [])) _ a1 s1
      (post_turns ts MoreGenerics MoreGenerics (sees m.Comma) (generic_more limits) (λ a at q. q) (λ a b c from mid to o q z. q (o z)) (λ a from s e. keep_generic_more a from s) limits.turns (x ∷ []) a1 s1)
      (λ all a2 s2 q. post_bind ts Any HasGenerics (expect m.Greater) _ a2 s2 (post_unit (expect m.Greater ts a2 s2)) (λ p to s3 o. short_keeps limits d in_generic all (q (short_one limits d in_generic x r.0 r.1)))))

  pub keep_generics : (at seen : ℕ) → Post HasGenerics (generics limits ts at seen)
  unfolding generics
  keep_generics at seen = post_next ts HasGenerics _ at seen (λ x e. by x (sees m.Less x))
    where
      by : (x : Option Lexed) (b : Bool) → PostChoice ts HasGenerics at x (generics_by limits b)
      by x true = post_take ts HasGenerics at x _ (λ s. keep_generics_rest (at + 1) s)
      by x false = λ s. short_keeps limits d in_generic [] (short_none limits d in_generic)

  -- ---- heads and constraints

  abbrev IsHeads : List Identifier → ℕ → Type 0
  IsHeads list to = HasNames list

  pub keep_heads : (at seen : ℕ) → Post (λ (list : List Identifier) (to : ℕ). Keeps limits d (λ count. greatest (map count.of_identifier list))) (heads limits ts at seen)
  unfolding heads
  keep_heads at seen = post_next ts IsHeads _ at seen (λ x e. by x (sees m.Colon x))
    where
      by : (x : Option Lexed) (b : Bool) → PostChoice ts IsHeads at x (heads_by limits b)
      by x true = post_take ts IsHeads at x _ (λ s. post_bind ts IsNames IsHeads (names limits) _ (at + 1) s (keep_names (at + 1) s) (λ a to s1 r. r))
      by x false = λ s. nothing_keeps limits d

  abbrev MoreConstraints : List Constraint → List Constraint → ℕ → ℕ → Type 0
  MoreConstraints a b from to = All limits in_constraint d a → All limits in_constraint d b

  keep_constraint_more : (a : List Constraint) (at seen : ℕ) → Post (λ b to. MoreConstraints a b at to) (constraint_more limits a ts at seen)
  unfolding constraint_more
  keep_constraint_more a at seen = let Q : List Constraint → ℕ → Type 0 = λ b to. MoreConstraints a b at to in
      post_bind ts Any Q (expect_word w.Where) _ at seen (post_unit (expect_word w.Where ts at seen))
      (λ begin a1 s1 o. post_bind ts IsName Q (name limits) _ a1 s1 (keep_name a1 s1)
      (λ id a2 s2 h. post_bind ts Any Q (expect m.Colon) _ a2 s2 (post_unit (expect m.Colon ts a2 s2))
      (λ p a3 s3 z. post_bind ts IsNames Q (names limits) _ a3 s3 (keep_names a3 s3)
      (λ list to s4 g r. keep_more limits in_constraint d a _ r (both_keep limits d (λ count. count.of_identifier id) (λ count. greatest (map count.of_identifier list.0)) h g)))))

  pub keep_constraints : (at seen : ℕ) → Post (λ (list : List Constraint) (to : ℕ). All limits in_constraint d list) (constraints limits ts at seen)
  unfolding constraints
  keep_constraints at seen = post_weaken (λ b to. MoreConstraints [] b at to) (λ list to. All limits in_constraint d list) (λ b to q. q (keep_none limits in_constraint d)) (turns (sees_word w.Where) (constraint_more limits) limits.turns [] ts at seen)
      (post_turns ts MoreConstraints MoreConstraints (sees_word w.Where) (constraint_more limits) (λ a at q. q) (λ a b c from mid to o q z. q (o z)) (λ a from s e. keep_constraint_more a from s) limits.turns [] at seen)

  -- ---- parameters

  abbrev IsType : Type_ → ℕ → Type 0
  IsType x to = Keeps limits d (λ count. count.of_type x.0)

  abbrev IsSemantic : Semantic limits d → ℕ → Type 0
  IsSemantic x to = Keeps limits d (λ count. optional count.of_identifier x.0)

  keep_semantic : (p : Place) (at seen : ℕ) → Post IsSemantic (semantic limits d p ts at seen)
  unfolding semantic
  keep_semantic p at seen = post_next ts IsSemantic _ at seen (λ x e. by x (sees m.Colon x))
    where
      by : (x : Option Lexed) (b : Bool) → PostChoice ts IsSemantic at x (semantic_by limits d p b)
      by x true = post_take ts IsSemantic at x _ (λ s. post_bind ts IsName IsSemantic (name limits) _ (at + 1) s (keep_name (at + 1) s) (λ id to s1 h. h))
      by x false = λ s. nothing_keeps limits d

  abbrev IsParameter : Parameter → ℕ → Type 0
  IsParameter x to = Keeps limits d (λ count. in_parameter count x)

  keep_parameter_rest : (begin : Place) (how : Mode) (t : TypeTree) (at seen : ℕ) → Keeps limits d (λ count. count.of_type t) → Post IsParameter (parameter_rest limits d begin how t ts at seen)
  unfolding parameter_rest
  keep_parameter_rest begin how t at seen r = post_bind ts (λ (x : Named) (to : ℕ). Keeps limits d (λ count. count.of_name x.0)) IsParameter (declared_name limits) _ at seen (keep_declared ts limits is_free d at seen)
      (λ x mid s1 h. post_bind ts IsSemantic IsParameter (semantic limits d x.1) _ mid s1 (keep_semantic x.1 mid s1)
      (λ id to s2 g. both_keep limits d (λ count. count.of_type t) (λ count. max (count.of_name x.0) (optional count.of_identifier id.0)) r (both_keep limits d (λ count. count.of_name x.0) (λ count. optional count.of_identifier id.0) h g)))

  keep_plain : (at seen : ℕ) → Post IsParameter (plain_parameter limits d ts at seen)
  unfolding plain_parameter
  keep_plain at seen = post_bind ts IsType IsParameter (types limits d) _ at seen (keep_types limits ts is_free d at seen) (λ t mid s1 r. keep_parameter_rest t.0.place _ t.0 mid s1 r)

  keep_moded : (begin : Place) (how : Mode) (at seen : ℕ) → Post IsParameter (moded_parameter limits d begin how ts at seen)
  unfolding moded_parameter
  keep_moded begin how at seen = post_bind ts IsType IsParameter (types limits d) _ at seen (keep_types limits ts is_free d at seen) (λ t mid s1 r. keep_parameter_rest begin how t.0 mid s1 r)

  keep_plain_as : (at : ℕ) (x : Option Lexed) (v : DeclarationUse) → PostChoice ts IsParameter at x (plain_as limits d v)
  keep_plain_as at x u.Typed = λ s. keep_plain at s
  keep_plain_as at x u.Struct = tt
  keep_plain_as at x u.Interface = tt
  keep_plain_as at x u.Extension = tt
  keep_plain_as at x u.TypeDef = tt
  keep_plain_as at x u.TypeAlias = tt
  keep_plain_as at x u.Static = tt
  keep_plain_as at x u.Associated = tt
  keep_plain_as at x u.Nothing = tt

  keep_parameter_word : (at : ℕ) (tok : Lexed) (word : Word) (o : Option Mode) → PostChoice ts IsParameter at (Some tok) (parameter_word limits d tok word o)
  keep_parameter_word at tok word (Some how) = λ s. keep_moded tok.place how (at + 1) s
  keep_parameter_word at tok word None = keep_plain_as at (Some tok) (declaration_use (k.Word word))

  keep_parameter_by : (at : ℕ) (tok : Lexed) (kind : Kind) → PostChoice ts IsParameter at (Some tok) (parameter_by limits d tok kind)
  keep_parameter_by at tok k.Name = λ s. keep_plain at s
  keep_parameter_by at tok (k.Word word) = keep_parameter_word at tok word (mode_of word)
  keep_parameter_by at tok (k.Number v) = tt
  keep_parameter_by at tok k.String = tt
  keep_parameter_by at tok (k.Mark mark) = tt

  abbrev NextParameter : ℕ → Parameter → ℕ → Type 0
  NextParameter count x to = (count + 1 ≤ limits.items) × Keeps limits d (λ c. in_parameter c x)

  keep_parameter : (count at seen : ℕ) → Post (NextParameter count) (parameter limits d count ts at seen)
  unfolding parameter
  keep_parameter count at seen = post_next ts (NextParameter count) _ at seen (λ x e. post_fits ts (NextParameter count) at x (fits_in limits count limits.items) code.TooLong (parameter_at limits d x)
      (λ f. choice_weaken ts IsParameter (NextParameter count) (λ a to r. (fits_less limits count limits.items is_free f, r)) at x (parameter_at limits d x) (go x)))
    where
      go : (x : Option Lexed) → PostChoice ts IsParameter at x (parameter_at limits d x)
      go (Some tok) = keep_parameter_by at tok tok.kind
      go None = tt

  abbrev MoreParameters : List Parameter → List Parameter → ℕ → ℕ → Type 0
  MoreParameters a b from to = Short limits d in_parameter a → Short limits d in_parameter b

  keep_parameter_more : (list : List Parameter) (at seen : ℕ) → Post (λ b to. MoreParameters list b at to) (parameter_more limits d list ts at seen)
  unfolding parameter_more
  keep_parameter_more list at seen = post_bind ts Any (λ b to. MoreParameters list b at to) (expect m.Comma) _ at seen (post_unit (expect m.Comma ts at seen))
      (λ p a1 s1 o. post_bind ts (NextParameter (length list)) (λ b to. MoreParameters list b at to) (parameter limits d (length list)) _ a1 s1 (keep_parameter (length list) a1 s1)
      (λ x to s2 r a. short_more limits d in_parameter list x r.0 r.1 a))

  abbrev HasParameters : List Parameter → ℕ → Type 0
  HasParameters x to = Keeps limits d (λ count. in_items count (in_parameter count) x)

  keep_some_parameters : (at seen : ℕ) → Post HasParameters (some_parameters limits d ts at seen)
  unfolding some_parameters
  keep_some_parameters at seen = post_bind ts (NextParameter 0) HasParameters (parameter limits d 0) _ at seen (keep_parameter 0 at seen)
      (λ x a1 s1 r. post_bind ts (λ all to. MoreParameters (x ∷ []) all a1 to) HasParameters (turns (sees m.Comma) (parameter_more limits d) limits.turns (x ∷ [])) _ a1 s1
      (post_turns ts MoreParameters MoreParameters (sees m.Comma) (parameter_more limits d) (λ a at q. q) (λ a b c from mid to o q z. q (o z)) (λ a from s e. keep_parameter_more a from s) limits.turns (x ∷ []) a1 s1)
      (λ all a2 s2 q. post_bind ts Any HasParameters (expect m.CloseParen) _ a2 s2 (post_unit (expect m.CloseParen ts a2 s2)) (λ p to s3 o. short_keeps limits d in_parameter all (q (short_one limits d in_parameter x r.0 r.1)))))

  pub keep_parameters : (at seen : ℕ) → Post HasParameters (parameters limits d ts at seen)
  unfolding parameters
  keep_parameters at seen = post_bind ts Any HasParameters (expect m.OpenParen) _ at seen (post_unit (expect m.OpenParen ts at seen)) (λ p mid s1 o. post_next ts HasParameters _ mid s1 (λ x e. by mid x (sees m.CloseParen x)))
    where
      by : (mid : ℕ) (x : Option Lexed) (b : Bool) → PostChoice ts HasParameters mid x (parameters_by limits d b)
      by mid x true = λ s. post_bind ts Any HasParameters (expect m.CloseParen) _ mid s (post_unit (expect m.CloseParen ts mid s)) (λ p to s2 o. short_keeps limits d in_parameter [] (short_none limits d in_parameter))
      by mid x false = λ s. keep_some_parameters mid s
