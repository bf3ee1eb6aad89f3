-- Expressions: what the descent reads is spelled.
use Rattle.std.proofs.Common.{Bool, true, false, ◌≡◌, ℕ, zero, suc, ◌+◌, List, [], ◌∷◌, drop, length, map, Option, Some, None, refl, sym, ◌∙◌, ap, subst, eqb-true, ◌==◌, ◌<◌, inl, inr, arith, if◌then◌else◌}
use Rattle.std.specs.Prelude.{nat_lt}
use Rattle.std.proofs.lemmas.Bool.Decides.{eqb_tells}
use Rattle.slang_names.specs.declared.places.Place.{Place}
use Rattle.slang_names.specs.declared.codes.ModuleCode.TheVariants as code
use Rattle.slang_tree.specs.declared.types.Identifier.{Identifier}
use Rattle.slang_tree.specs.declared.types.Builtin.{Builtin}
use Rattle.slang_tree.specs.declared.expressions.UnaryOperator.{UnaryOperator}
use Rattle.slang_tree.specs.declared.expressions.BinaryOperator.{BinaryOperator}
use Rattle.slang_tree.specs.declared.expressions.BinaryOperator.TheVariants as o
use Rattle.slang_tree.specs.declared.expressions.ExprTree.{ExprTree}
use Rattle.slang_tree.specs.declared.expressions.ExprNode.TheVariants as n
use Rattle.slang_tokens.specs.declared.tokens.Kind.{Kind}
use Rattle.slang_tokens.specs.declared.tokens.Kind.TheVariants as k
use Rattle.slang_tokens.specs.declared.tokens.Mark.{Mark}
use Rattle.slang_tokens.specs.declared.tokens.Mark.TheVariants as m
use Rattle.slang_tokens.specs.declared.tokens.Word.{Word}
use Rattle.slang_reading.specs.Lexed.{Lexed}
use Rattle.slang_reading.specs.Reading.{Done, Parser, Leave, Take, Refuse, first, if_fits, pure, past, place_of, next, attempt, turns}
use Rattle.slang_reading.specs.Kinds.{is_mark, sees, span}
use Rattle.slang_reading.proofs.Marks.{sees_some, same_mark}
use Rattle.slang_reading.proofs.Exact.{Post, PostChoice, post_bind, post_next, post_fits, post_turns, post_attempt, post_weaken, Reads, reads_bind, reads_next, reads_pure, reads_not_stopped}
use Rattle.slang_grammar.specs.Tables.{builtin_of, unary_of, binary_of, level_of}
use Rattle.slang_grammar.specs.Standing.{Stands, NameStands}
use Rattle.slang_grammar.specs.Types.{ArgumentsAt}
use Rattle.slang_grammar.specs.Expressions as ex
use Rattle.slang_grammar.specs.Expressions.{valued, follows, NameAt, OperatorAt, loosest, ExprAt, LevelAt, BinaryAt, UnaryAt, PostfixAt, ChainAt, ValuesAt, MoreValuesAt, PrimaryAt}
use Rattle.slang_grammar.specs.Heights.{greatest, argument_height}
use Rattle.slang_grammar.specs.Descent.{Limits, fits_in, expect, identifier, is_short}
use Rattle.slang_grammar.specs.TypesDescent.{Arguments, arguments, types}
use Rattle.slang_grammar.specs.ExpressionsDescent.{Value, Values, freed, arguments_ahead, Given, given_by, given_at, given, repeats, begins, shift_ahead, cast_ahead, whole, over, value_of, value, value_more, values_by, values, construct, primary_word, named, paren, primary_by, member_name, member_by, member_at, index, call, chain_by, chain_at, chain, chains, chain_rest, primary_at, postfix, prefix, cast_by, unary_mark, unary_by, unary_at, unary, operand, greater, shift_by, operator_mark, operator_by, operator_at, operator, level, choice, choice_by, choice_rest, at_level, leveled}
use Rattle.slang_grammar.proofs.Shared.{stands, name_stands, IsMarkAt, post_expect}
use Rattle.slang_grammar.proofs.TypesSpelled.{post_arguments, post_types}
use Rattle.slang_grammar.proofs.TypesRead.{reads_arguments, less_there}
use Rattle.slang_reading.proofs.Fine.{fine_post}
use Rattle.expression_grammar.proofs.Ahead.{IsCastAt, fine_cast_ahead, post_joined, IsShiftAt, fine_shift_ahead}
use Rattle.expression_grammar.proofs.Parts.{post_known, post_here, post_ahead, TurnIs, post_repeats}
use Rattle.expression_grammar.proofs.Tables.{operator_other, unary_other, primary_other, chain_other, WordOf, true_word, false_word, this_value, this_type, other, word_of, level_bound}

-- ---- a name and what stands behind it

module _ (ts : List Lexed) (limits : Limits) where
  -- arguments that are looked at ahead are followed by `(` or `.`
  pub post_arguments_ahead : (P : Arguments × Place → ℕ → Type 0) (at seen : ℕ) → Post P (arguments (freed limits) true limits.turns (types (freed limits) limits.turns) ts at seen) →
      Post (λ a to. P a to × (follows (first (drop to ts)) ≡ true)) (arguments_ahead limits ts at seen)
  unfolding arguments_ahead
  post_arguments_ahead P at seen h =
      let Q : Arguments × Place → ℕ → Type 0 = λ a to. P a to × (follows (first (drop to ts)) ≡ true) in
      post_bind ts P Q (arguments (freed limits) true limits.turns (types (freed limits) limits.turns)) _ at seen h
      (λ a mid seen1 r. post_next ts Q (λ x. if follows x then Leave (pure a) else Refuse) mid seen1 (λ x e. by a mid r x e (follows x) refl))
    where
      by : (a : Arguments × Place) (mid : ℕ) → P a mid → (x : Option Lexed) → first (drop mid ts) ≡ x → (b : Bool) → follows x ≡ b →
          PostChoice ts (λ a to. P a to × (follows (first (drop to ts)) ≡ true)) mid x (if b then Leave (pure a) else Refuse)
      by a mid r x e true q = λ seen2. (r, ap follows e ∙ q)
      by a mid r x e false q = tt

  -- arguments that `(` or `.` follows are seen ahead, unless there is no room
  pub reads_arguments_ahead : (E : Type 0) (all : Arguments × Place) (from to seen : ℕ) → Reads E (arguments (freed limits) true limits.turns (types (freed limits) limits.turns)) ts from seen all to →
      follows (first (drop to ts)) ≡ true → Reads E (arguments_ahead limits) ts from seen all to
  unfolding arguments_ahead
  reads_arguments_ahead E all from to seen r f =
      reads_bind E ts (arguments (freed limits) true limits.turns (types (freed limits) limits.turns)) _ from seen to to all all r
      (λ seen1. reads_next E ts (λ x. if follows x then Leave (pure all) else Refuse) to seen1 all to (first (drop to ts)) (Leave (pure all)) refl
      (ap (λ b. if b then Leave (pure all) else Refuse) f) (λ seen2. reads_pure E ts all to seen2))

  module _ (d : ℕ) (id : Identifier) (at : ℕ) (s : NameStands ts at id) where
    GivenAt : Given → ℕ → Type 0
    GivenAt a to = NameAt ts id a.0 a.2 at to

    given_there : (seen : ℕ) (b : Arguments × Place) (mid seen1 seen2 : ℕ) → arguments_ahead limits ts (at + 1) seen ≡ Done b mid seen1 →
        Post GivenAt (given_by limits d id.place true ts (at + 1) seen2)
    unfolding GivenAt
    given_there seen b mid seen1 seen2 e = post_bind ts (λ r to. ArgumentsAt ts r.0.0 r.1 (at + 1) to) GivenAt (arguments limits true d (types limits d)) _ (at + 1) seen2
        (post_arguments ts limits true d (types limits d) (λ from seen3. post_types ts limits d from seen3) (at + 1) seen2)
        (λ a to seen3 r.
        let known = post_known (arguments (freed limits) true limits.turns (types (freed limits) limits.turns)) ts (at + 1) seen ((a.0.0, greatest (map argument_height a.0.0)), a.1) to
        (reads_arguments (Unit {0}) tt (freed limits) r true limits.turns seen) in
        let P : Arguments × Place → ℕ → Type 0 = λ c end. (c ≡ ((a.0.0, greatest (map argument_height a.0.0)), a.1)) × (end ≡ to) in
        let h = post_here (λ c end. P c end × (follows (first (drop end ts)) ≡ true)) (arguments_ahead limits ts (at + 1) seen) b mid seen1 e (post_arguments_ahead P (at + 1) seen known) in
        ex.generic s r (subst (λ n. follows (first (drop n ts)) ≡ true) h.0.1 h.1))

    pub post_given : (seen : ℕ) → Post (λ a to. NameAt ts id a.0 a.2 at to) (given limits d id.place ts (at + 1) seen)
    unfolding given GivenAt
    post_given seen = post_next ts GivenAt _ (at + 1) seen (λ x e. by x e (sees m.Less x) refl)
      where
        by : (x : Option Lexed) → first (drop (at + 1) ts) ≡ x → (b : Bool) → sees m.Less x ≡ b → PostChoice ts GivenAt (at + 1) x (given_at limits d id.place b)
        by x e true q = λ seen1. post_ahead ts (arguments_ahead limits) (given_by limits d id.place) (at + 1) seen1 GivenAt
            (λ b mid seen2 r. given_there seen1 b mid seen2 seen2 r)
            (λ seen2 r. ex.alone s (record {
              none = λ args end to a f.
                  reads_not_stopped (Unit {0}) (arguments_ahead limits) ts (at + 1) seen1 ((args, greatest (map argument_height args)), end) to seen2
                  (reads_arguments_ahead (Unit {0}) ((args, greatest (map argument_height args)), end) (at + 1) to seen1 (reads_arguments (Unit {0}) tt (freed limits) a true limits.turns seen1) f) r;
            }))
        by x e false q = λ seen1. ex.alone s (record { none = λ args end to a f. let l = sym (less_there a) ∙ (ap (sees m.Less) e ∙ q) in cc })

-- ---- expressions inside of which so many nodes may stand

-- what a parser of a level reads: of the level behind the loosest, whole expressions
abbrev pub SpelledBy : List Lexed → ℕ → Bool → ExprTree → ℕ → ℕ → Type 0
SpelledBy ts l true x from to = ExprAt ts x from to
SpelledBy ts l false x from to = LevelAt ts l x from to

abbrev pub SpelledAt : List Lexed → ℕ → ExprTree → ℕ → ℕ → Type 0
SpelledAt ts l x from to = SpelledBy ts l (l == suc loosest) x from to

-- the level of an operator is none of whole expressions
pub not_whole : (l : ℕ) → l < 10 → (l == suc loosest) ≡ false
not_whole l h = elim (eqb_tells l (suc loosest)) [ inl t ↦ absurd (omega (arith, t.1, h)) | inr t ↦ t.0 ]

module _ (ts : List Lexed) (limits : Limits) (d : ℕ) (inner : ℕ → Parser Value) (h : (l at seen : ℕ) → Post (λ x to. SpelledAt ts l x.0 at to) (inner l ts at seen)) where
  -- ---- values between parentheses

  IsExprAt : ℕ → Value → ℕ → Type 0
  IsExprAt at x to = ExprAt ts x.0 at to

  post_value : (count at seen : ℕ) → Post (IsExprAt at) (value limits d inner count ts at seen)
  unfolding value IsExprAt
  post_value count at seen = post_next ts (IsExprAt at) _ at seen
      (λ x e. post_fits ts (IsExprAt at) at x (fits_in limits count limits.items) code.TooLong (value_of limits d inner x) (λ f. by x (begins x)))
    where
      by : (x : Option Lexed) (b : Bool) → PostChoice ts (IsExprAt at) at x (if b then if_fits (nat_lt 0 d) code.TooNested x (Leave (whole limits d inner)) else Refuse)
      by x true = post_fits ts (IsExprAt at) at x (nat_lt 0 d) code.TooNested (Leave (whole limits d inner)) (λ f seen1. h (suc loosest) at seen1)
      by x false = tt

  -- whatever goes on from there goes on from here
  MoreAt : Values → Values → ℕ → ℕ → Type 0
  MoreAt list longer from mid = (all : List ExprTree) (to : ℕ) → MoreValuesAt ts longer.0 all mid to → MoreValuesAt ts list.0 all from to

  post_value_more : (list : Values) (at seen : ℕ) → Post (λ longer mid. MoreAt list longer at mid) (value_more limits d inner list ts at seen)
  unfolding value_more MoreAt IsExprAt
  post_value_more list at seen = post_bind ts (IsMarkAt ts m.Comma at) (λ longer mid. MoreAt list longer at mid) (expect m.Comma) _ at seen (post_expect ts m.Comma at seen)
      (λ p mid seen1 s. post_bind ts (IsExprAt mid) (λ longer mid. MoreAt list longer at mid) (value limits d inner (length list.0)) _ mid seen1 (post_value (length list.0) mid seen1)
      (λ x to seen2 r all end q. ex.more s.0 (subst (λ n. ExprAt ts x.0 n to) s.1 r) q))

  IsValuesAt : ℕ → Values × Place → ℕ → Type 0
  IsValuesAt at r to = ValuesAt ts r.0.0 r.1 at to

  post_values : (at seen : ℕ) → Post (IsValuesAt at) (values limits d inner ts at seen)
  unfolding values IsValuesAt MoreAt IsExprAt
  post_values at seen = post_next ts (IsValuesAt at) _ at seen (λ x e. by x (sees m.CloseParen x))
    where
      by : (x : Option Lexed) (b : Bool) → PostChoice ts (IsValuesAt at) at x (values_by limits d inner b)
      by x true = λ seen1. post_bind ts (IsMarkAt ts m.CloseParen at) (IsValuesAt at) (expect m.CloseParen) _ at seen1 (post_expect ts m.CloseParen at seen1)
          (λ end to seen2 s. subst (λ n. ValuesAt ts [] end at n) (sym s.1) (ex.no_values s.0))
      by x false = λ seen1. post_bind ts (IsExprAt at) (IsValuesAt at) (value limits d inner 0) _ at seen1 (post_value 0 at seen1)
          (λ x mid seen2 r. post_bind ts (λ all to. MoreValuesAt ts (x.0 ∷ []) all.0 mid to) (IsValuesAt at) (turns (sees m.Comma) (value_more limits d inner) limits.turns (x.0 ∷ [], x.1)) _ mid seen2
          (post_turns ts (λ a b from to. MoreValuesAt ts a.0 b.0 from to) MoreAt (sees m.Comma) (value_more limits d inner) (λ a at. ex.end)
          (λ a b c from mid to o q. o c.0 to q) (λ a from seen3 e. post_value_more a from seen3) limits.turns (x.0 ∷ [], x.1) mid seen2)
          (λ all mid2 seen3 q. post_bind ts (IsMarkAt ts m.CloseParen mid2) (IsValuesAt at) (expect m.CloseParen) _ mid2 seen3 (post_expect ts m.CloseParen mid2 seen3)
          (λ end to seen4 s. subst (λ n. ValuesAt ts all.0 end at n) (sym s.1) (ex.values r q s.0))))

  -- ---- primaries

  IsPrimaryAt : ℕ → Value → ℕ → Type 0
  IsPrimaryAt at x to = PrimaryAt ts x.0 at to

  post_construct : (word : Word) (b : Builtin) (begin : Place) (at seen : ℕ) → Stands ts at (k.Word word) begin → builtin_of word ≡ Some b →
      Post (IsPrimaryAt at) (construct limits d inner begin b ts (at + 1) seen)
  unfolding construct IsPrimaryAt IsValuesAt
  post_construct word b begin at seen s q = post_bind ts (IsMarkAt ts m.OpenParen (at + 1)) (IsPrimaryAt at) (expect m.OpenParen) _ (at + 1) seen (post_expect ts m.OpenParen (at + 1) seen)
      (λ p mid seen1 o. post_bind ts (IsValuesAt mid) (IsPrimaryAt at) (values limits d inner) _ mid seen1 (post_values mid seen1)
      (λ v to seen2 r. ex.construct s q o.0 (subst (λ n. ValuesAt ts v.0.0 v.1 n to) o.1 r)))

  post_paren : (begin : Place) (at seen : ℕ) → Stands ts at (k.Mark m.OpenParen) begin → Post (IsPrimaryAt at) (paren limits d inner begin ts (at + 1) seen)
  unfolding paren IsPrimaryAt IsExprAt
  post_paren begin at seen s = post_bind ts (IsExprAt (at + 1)) (IsPrimaryAt at) (whole limits d inner) _ (at + 1) seen (h (suc loosest) (at + 1) seen)
      (λ x mid seen1 r. post_bind ts (IsMarkAt ts m.CloseParen mid) (IsPrimaryAt at) (expect m.CloseParen) _ mid seen1 (post_expect ts m.CloseParen mid seen1)
      (λ end to seen2 o. subst (λ last. PrimaryAt ts (valued (span begin end) (n.Paren x.0)) at last) (sym o.1) (ex.paren s r o.0)))

  post_named : (id : Identifier) (at seen : ℕ) → NameStands ts at id → Post (IsPrimaryAt at) (named limits d inner id ts (at + 1) seen)
  unfolding named IsPrimaryAt
  post_named id at seen s = post_bind ts (λ a to. NameAt ts id a.0 a.2 at to) (IsPrimaryAt at) (given limits d id.place) _ (at + 1) seen (post_given ts limits d id at s seen)
      (λ a to seen1 r. ex.name r)

  post_primary_word : (at : ℕ) (tok : Lexed) (word : Word) → Stands ts at (k.Word word) tok.place → (o : Option Builtin) → builtin_of word ≡ o →
      PostChoice ts (IsPrimaryAt at) at (Some tok) (primary_word limits d inner tok word o)
  unfolding IsPrimaryAt
  post_primary_word at tok word s (Some b) q = λ seen1. post_construct word b tok.place at seen1 s q
  post_primary_word at tok word s None q = by word s (word_of limits d inner word tok)
    where
      by : (word : Word) → Stands ts at (k.Word word) tok.place → WordOf limits d inner word tok → PostChoice ts (IsPrimaryAt at) at (Some tok) (primary_word limits d inner tok word None)
      by word s (true_word e) = subst (λ a. PostChoice ts (IsPrimaryAt at) at (Some tok) (primary_word limits d inner tok a None)) (sym e) (λ seen1. ex.true_word (subst (λ a. Stands ts at (k.Word a) tok.place) e s))
      by word s (false_word e) = subst (λ a. PostChoice ts (IsPrimaryAt at) at (Some tok) (primary_word limits d inner tok a None)) (sym e) (λ seen1. ex.false_word (subst (λ a. Stands ts at (k.Word a) tok.place) e s))
      by word s (this_value e) = subst (λ a. PostChoice ts (IsPrimaryAt at) at (Some tok) (primary_word limits d inner tok a None)) (sym e) (λ seen1. ex.this_value (subst (λ a. Stands ts at (k.Word a) tok.place) e s))
      by word s (this_type e) = subst (λ a. PostChoice ts (IsPrimaryAt at) at (Some tok) (primary_word limits d inner tok a None)) (sym e) (λ seen1. ex.this_type (subst (λ a. Stands ts at (k.Word a) tok.place) e s))
      by word s (other e) = subst (PostChoice ts (IsPrimaryAt at) at (Some tok)) (sym e) tt

  post_primary_by : (at : ℕ) (tok : Lexed) → first (drop at ts) ≡ Some tok → (kind : Kind) → tok.kind ≡ kind → PostChoice ts (IsPrimaryAt at) at (Some tok) (primary_by limits d inner tok kind)
  unfolding IsPrimaryAt
  post_primary_by at tok e (k.Number v) q = λ seen1. ex.number (stands ts at tok (k.Number v) e q)
  post_primary_by at tok e k.Name q = post_fits ts (IsPrimaryAt at) at (Some tok) (is_short limits tok) code.TooLong (Take (named limits d inner (identifier tok)))
      (λ f seen1. post_named (identifier tok) at seen1 (name_stands ts at tok e q))
  post_primary_by at tok e (k.Word word) q = post_primary_word at tok word (stands ts at tok (k.Word word) e q) (builtin_of word) refl
  post_primary_by at tok e k.String q = tt
  post_primary_by at tok e (k.Mark mark) q = by (is_mark m.OpenParen (k.Mark mark)) refl
    where
      by : (b : Bool) → is_mark m.OpenParen (k.Mark mark) ≡ b → PostChoice ts (IsPrimaryAt at) at (Some tok) (primary_by limits d inner tok (k.Mark mark))
      by true r = subst (λ a. PostChoice ts (IsPrimaryAt at) at (Some tok) (primary_by limits d inner tok (k.Mark a))) (same_mark m.OpenParen mark r)
          (λ seen1. post_paren tok.place at seen1 (stands ts at tok (k.Mark m.OpenParen) e (q ∙ ap k.Mark (sym (same_mark m.OpenParen mark r)))))
      by false r = subst (PostChoice ts (IsPrimaryAt at) at (Some tok)) (sym (primary_other limits d inner tok mark r)) tt

  post_primary_at : (at : ℕ) (x : Option Lexed) → first (drop at ts) ≡ x → PostChoice ts (IsPrimaryAt at) at x (primary_at limits d inner x)
  post_primary_at at (Some tok) e = post_primary_by at tok e tok.kind refl
  post_primary_at at None e = tt

  -- ---- members, indices and calls

  -- whatever goes on from there goes on from here
  ChainsAt : Value → Value → ℕ → ℕ → Type 0
  ChainsAt x y from mid = (z : ExprTree) (to : ℕ) → ChainAt ts y.0 z mid to → ChainAt ts x.0 z from to

  post_member : (x : Value) (p : Place) (at seen : ℕ) → Stands ts at (k.Mark m.Dot) p → Post (λ y mid. ChainsAt x y at mid) (next (member_at limits d inner x) ts (at + 1) seen)
  unfolding member_name ChainsAt
  post_member x p at seen s = post_next ts (λ y mid. ChainsAt x y at mid) (member_at limits d inner x) (at + 1) seen go
    where
      by : (tok : Lexed) → first (drop (at + 1) ts) ≡ Some tok → (kind : Kind) → tok.kind ≡ kind → PostChoice ts (λ y mid. ChainsAt x y at mid) (at + 1) (Some tok) (member_by limits d inner x tok kind)
      by tok e k.Name q = post_fits ts (λ y mid. ChainsAt x y at mid) (at + 1) (Some tok) (is_short limits tok) code.TooLong (Take (member_name limits d inner x (identifier tok)))
          (λ f seen1. post_bind ts (λ a to. NameAt ts (identifier tok) a.0 a.2 (at + 1) to) (λ y mid. ChainsAt x y at mid) (given limits d tok.place) _ (at + 1 + 1) seen1
          (post_given ts limits d (identifier tok) (at + 1) (name_stands ts (at + 1) tok e q) seen1) (λ a to seen2 r z end c. ex.member s r c))
      by tok e (k.Word word) q = tt
      by tok e (k.Number v) q = tt
      by tok e k.String q = tt
      by tok e (k.Mark mark) q = tt

      go : (o : Option Lexed) → first (drop (at + 1) ts) ≡ o → PostChoice ts (λ y mid. ChainsAt x y at mid) (at + 1) o (member_at limits d inner x o)
      go (Some tok) e = by tok e tok.kind refl
      go None e = tt

  post_index : (x : Value) (p : Place) (at seen : ℕ) → Stands ts at (k.Mark m.OpenBracket) p → Post (λ y mid. ChainsAt x y at mid) (index limits d inner x ts (at + 1) seen)
  unfolding index ChainsAt IsExprAt
  post_index x p at seen s = post_bind ts (IsExprAt (at + 1)) (λ y mid. ChainsAt x y at mid) (whole limits d inner) _ (at + 1) seen (h (suc loosest) (at + 1) seen)
      (λ i mid seen1 r. post_bind ts (IsMarkAt ts m.CloseBracket mid) (λ y mid. ChainsAt x y at mid) (expect m.CloseBracket) _ mid seen1 (post_expect ts m.CloseBracket mid seen1)
      (λ end to seen2 o z last c. ex.index s r o.0 (subst (λ to2. ChainAt ts (valued (span x.0.place end) (n.Index x.0 i.0)) z to2 last) o.1 c)))

  post_call : (x : Value) (p : Place) (at seen : ℕ) → Stands ts at (k.Mark m.OpenParen) p → Post (λ y mid. ChainsAt x y at mid) (call limits d inner x ts (at + 1) seen)
  unfolding call ChainsAt IsValuesAt
  post_call x p at seen s = post_bind ts (IsValuesAt (at + 1)) (λ y mid. ChainsAt x y at mid) (values limits d inner) _ (at + 1) seen (post_values (at + 1) seen)
      (λ v to seen1 r z end c. ex.call s r c)

  -- one more of a chain, where it goes on
  post_chain : (x : Value) (at seen : ℕ) → Post (λ y mid. ChainsAt x y at mid) (chain limits d inner x ts at seen)
  unfolding chain
  post_chain x at seen = post_next ts (λ y mid. ChainsAt x y at mid) (chain_at limits d inner x) at seen go
    where
      goes : (tok : Lexed) → first (drop at ts) ≡ Some tok → (mark : Mark) → tok.kind ≡ k.Mark mark → (a b c : Bool) → is_mark m.Dot (k.Mark mark) ≡ a → is_mark m.OpenBracket (k.Mark mark) ≡ b →
          is_mark m.OpenParen (k.Mark mark) ≡ c → PostChoice ts (λ y mid. ChainsAt x y at mid) at (Some tok) (chain_by limits d inner x (Some tok) (k.Mark mark))
      goes tok e mark q true b c r s t = subst (λ a. PostChoice ts (λ y mid. ChainsAt x y at mid) at (Some tok) (chain_by limits d inner x (Some tok) (k.Mark a))) (same_mark m.Dot mark r)
          (post_fits ts (λ y mid. ChainsAt x y at mid) at (Some tok) (fits_in limits x.1 (suc d)) code.TooNested (Take (next (member_at limits d inner x)))
          (λ f seen1. post_member x tok.place at seen1 (stands ts at tok (k.Mark m.Dot) e (q ∙ ap k.Mark (sym (same_mark m.Dot mark r))))))
      goes tok e mark q false true c r s t = subst (λ a. PostChoice ts (λ y mid. ChainsAt x y at mid) at (Some tok) (chain_by limits d inner x (Some tok) (k.Mark a))) (same_mark m.OpenBracket mark s)
          (post_fits ts (λ y mid. ChainsAt x y at mid) at (Some tok) (fits_in limits x.1 (suc d)) code.TooNested (Take (index limits d inner x))
          (λ f seen1. post_index x tok.place at seen1 (stands ts at tok (k.Mark m.OpenBracket) e (q ∙ ap k.Mark (sym (same_mark m.OpenBracket mark s))))))
      goes tok e mark q false false true r s t = subst (λ a. PostChoice ts (λ y mid. ChainsAt x y at mid) at (Some tok) (chain_by limits d inner x (Some tok) (k.Mark a))) (same_mark m.OpenParen mark t)
          (post_fits ts (λ y mid. ChainsAt x y at mid) at (Some tok) (fits_in limits x.1 (suc d)) code.TooNested (Take (call limits d inner x))
          (λ f seen1. post_call x tok.place at seen1 (stands ts at tok (k.Mark m.OpenParen) e (q ∙ ap k.Mark (sym (same_mark m.OpenParen mark t))))))
      goes tok e mark q false false false r s t = subst (PostChoice ts (λ y mid. ChainsAt x y at mid) at (Some tok)) (sym (chain_other limits d inner x (Some tok) mark r s t)) tt

      by : (tok : Lexed) → first (drop at ts) ≡ Some tok → (kind : Kind) → tok.kind ≡ kind → PostChoice ts (λ y mid. ChainsAt x y at mid) at (Some tok) (chain_by limits d inner x (Some tok) kind)
      by tok e (k.Mark mark) q = goes tok e mark q (is_mark m.Dot (k.Mark mark)) (is_mark m.OpenBracket (k.Mark mark)) (is_mark m.OpenParen (k.Mark mark)) refl refl refl
      by tok e k.Name q = tt
      by tok e (k.Word word) q = tt
      by tok e (k.Number v) q = tt
      by tok e k.String q = tt

      go : (t : Option Lexed) → first (drop at ts) ≡ t → PostChoice ts (λ y mid. ChainsAt x y at mid) at t (chain_at limits d inner x t)
      go (Some tok) e = by tok e tok.kind refl
      go None e = tt

  -- behind a primary
  pub post_chain_rest : (x : Value) (at seen : ℕ) → Post (λ y to. ChainAt ts x.0 y.0 at to) (chain_rest limits d inner x ts at seen)
  unfolding chain_rest ChainsAt
  post_chain_rest x at seen = post_turns ts (λ a b from to. ChainAt ts a.0 b.0 from to) ChainsAt (chains limits d inner) (chain limits d inner) (λ a at. ex.whole)
      (λ a b c from mid to o q. o c.0 to q) (λ a from seen1 e. post_chain a from seen1) limits.turns x at seen

  pub post_postfix : (at seen : ℕ) → Post (λ x to. PostfixAt ts x.0 at to) (postfix limits d inner ts at seen)
  unfolding postfix IsPrimaryAt
  post_postfix at seen = post_bind ts (IsPrimaryAt at) (λ x to. PostfixAt ts x.0 at to) (next (primary_at limits d inner)) (chain_rest limits d inner) at seen
      (post_next ts (IsPrimaryAt at) (primary_at limits d inner) at seen (λ x e. post_primary_at at x e))
      (λ x mid seen1 r. post_weaken (λ y to. ChainAt ts x.0 y.0 mid to) (λ y to. PostfixAt ts y.0 at to) (λ y to c. ex.postfix r c) (chain_rest limits d inner x ts mid seen1) (post_chain_rest x mid seen1))

  -- ---- operators before an operand, and casts

  IsUnaryAt : ℕ → Value → ℕ → Type 0
  IsUnaryAt at x to = UnaryAt ts x.0 at to

  -- an operand of the tightest level
  post_tight : (at seen : ℕ) → Post (IsUnaryAt at) (inner zero ts at seen)
  unfolding IsUnaryAt
  post_tight at seen = post_weaken (λ x to. LevelAt ts zero x.0 at to) (IsUnaryAt at) (λ x to r. tight r) (inner zero ts at seen) (h zero at seen)
    where
      tight : {x : ExprTree} {to : ℕ} → LevelAt ts zero x at to → UnaryAt ts x at to
      tight (ex.unary u) = u

  post_simple : (at seen : ℕ) → Post (IsUnaryAt at) (postfix limits d inner ts at seen)
  unfolding IsUnaryAt
  post_simple at seen = post_weaken (λ x to. PostfixAt ts x.0 at to) (IsUnaryAt at) (λ x to r. ex.simple r) (postfix limits d inner ts at seen) (post_postfix at seen)

  post_prefix : (mark : Mark) (op : UnaryOperator) (begin : Place) (at seen : ℕ) → Stands ts at (k.Mark mark) begin → unary_of mark ≡ Some op → Post (IsUnaryAt at) (prefix limits d inner begin op ts (at + 1) seen)
  unfolding prefix IsUnaryAt
  post_prefix mark op begin at seen s q = post_bind ts (IsUnaryAt (at + 1)) (IsUnaryAt at) (inner zero) _ (at + 1) seen (post_tight (at + 1) seen) (λ x to seen1 r. ex.prefix s q r)

  -- behind an opening parenthesis
  post_opened : (begin : Place) (at seen : ℕ) → Stands ts at (k.Mark m.OpenParen) begin → Post (IsUnaryAt at) (attempt cast_ahead (cast_by limits d inner begin) ts (at + 1) seen)
  unfolding IsUnaryAt IsPrimaryAt
  post_opened begin at seen s = post_attempt ts cast_ahead (cast_by limits d inner begin) (at + 1) seen (IsCastAt ts (at + 1)) (IsUnaryAt at) (fine_post (IsCastAt ts (at + 1)) (cast_ahead ts (at + 1) seen) (fine_cast_ahead ts (at + 1) seen))
      (λ b mid seen1 c. post_bind ts (IsUnaryAt mid) (IsUnaryAt at) (inner zero) _ mid seen1 (post_tight mid seen1)
      (λ x to seen2 r. ex.cast s c.3 c.4 c.5 (subst (λ from. UnaryAt ts x.0 from to) c.6 r)))
      (λ never seen1. post_bind ts (IsPrimaryAt at) (IsUnaryAt at) (paren limits d inner begin) (chain_rest limits d inner) (at + 1) seen1 (post_paren begin at seen1 s)
      (λ x mid seen2 r. post_weaken (λ y to. ChainAt ts x.0 y.0 mid to) (IsUnaryAt at) (λ y to c. ex.simple (ex.postfix r c)) (chain_rest limits d inner x ts mid seen2) (post_chain_rest x mid seen2)))

  post_unary_mark : (at : ℕ) (tok : Lexed) (mark : Mark) → Stands ts at (k.Mark mark) tok.place → (o : Option UnaryOperator) → unary_of mark ≡ o → PostChoice ts (IsUnaryAt at) at (Some tok) (unary_mark limits d inner tok o)
  post_unary_mark at tok mark s (Some op) q = λ seen1. post_prefix mark op tok.place at seen1 s q
  post_unary_mark at tok mark s None q = λ seen1. post_simple at seen1

  post_unary_by : (at : ℕ) (tok : Lexed) → first (drop at ts) ≡ Some tok → (kind : Kind) → tok.kind ≡ kind → PostChoice ts (IsUnaryAt at) at (Some tok) (unary_by limits d inner tok kind)
  post_unary_by at tok e (k.Mark mark) q = by (is_mark m.OpenParen (k.Mark mark)) refl
    where
      by : (b : Bool) → is_mark m.OpenParen (k.Mark mark) ≡ b → PostChoice ts (IsUnaryAt at) at (Some tok) (unary_by limits d inner tok (k.Mark mark))
      by true r = subst (λ a. PostChoice ts (IsUnaryAt at) at (Some tok) (unary_by limits d inner tok (k.Mark a))) (same_mark m.OpenParen mark r)
          (λ seen1. post_opened tok.place at seen1 (stands ts at tok (k.Mark m.OpenParen) e (q ∙ ap k.Mark (sym (same_mark m.OpenParen mark r)))))
      by false r = subst (PostChoice ts (IsUnaryAt at) at (Some tok)) (sym (unary_other limits d inner tok mark r))
          (post_unary_mark at tok mark (stands ts at tok (k.Mark mark) e q) (unary_of mark) refl)
  post_unary_by at tok e k.Name q = λ seen1. post_simple at seen1
  post_unary_by at tok e (k.Word word) q = λ seen1. post_simple at seen1
  post_unary_by at tok e (k.Number v) q = λ seen1. post_simple at seen1
  post_unary_by at tok e k.String q = λ seen1. post_simple at seen1

  post_unary_at : (at : ℕ) (x : Option Lexed) → first (drop at ts) ≡ x → PostChoice ts (IsUnaryAt at) at x (unary_at limits d inner x)
  post_unary_at at (Some tok) e = post_unary_by at tok e tok.kind refl
  post_unary_at at None e = tt

  post_unary : (at seen : ℕ) → Post (IsUnaryAt at) (unary limits d inner ts at seen)
  unfolding unary
  post_unary at seen = post_next ts (IsUnaryAt at) (unary_at limits d inner) at seen (λ x e. post_unary_at at x e)

  -- ---- operators between operands

  -- whatever goes on from there goes on from here
  BinariesAt : ℕ → Value → Value → ℕ → ℕ → Type 0
  BinariesAt l x y from mid = (z : ExprTree) (to : ℕ) → BinaryAt ts l y.0 z mid to → BinaryAt ts l x.0 z from to

  abbrev OperatorTurn : ℕ → Value → ℕ → Option Value → ℕ → Type 0
  OperatorTurn l x at = TurnIs (λ y mid. BinariesAt l x y at mid) at

  post_operand : (l : ℕ) (op : BinaryOperator) (x : Value) (from mid seen : ℕ) → OperatorAt ts op from mid → level_of op ≡ l → Post (OperatorTurn l x from) (operand limits d inner l op x ts mid seen)
  unfolding operand BinariesAt
  post_operand l op x from mid seen s q = post_bind ts (λ z to. LevelAt ts l z.0 mid to) (OperatorTurn l x from) (inner l) _ mid seen
      (subst (λ b. Post (λ z to. SpelledBy ts l b z.0 mid to) (inner l ts mid seen)) (not_whole l (subst (λ n. n < 10) q (level_bound op))) (h l mid seen))
      (λ z to seen1 r w end b. ex.operator s q r b)

  post_greater : (l : ℕ) (p : Place) (x : Value) (at seen : ℕ) → Stands ts at (k.Mark m.Greater) p → level_of o.Greater ≡ l → Post (OperatorTurn l x at) (greater limits d inner l p x ts (at + 1) seen)
  unfolding greater
  post_greater l p x at seen s q = post_next ts (OperatorTurn l x at) _ (at + 1) seen
      (λ t e. post_joined ts (OperatorTurn l x at) m.Equal p (at + 1) t e (Take (operand limits d inner l o.GreaterEqual x)) (Leave (operand limits d inner l o.Greater x))
      (λ u f r j. subst (λ y. PostChoice ts (OperatorTurn l x at) (at + 1) y (Take (operand limits d inner l o.GreaterEqual x))) (sym f) (λ seen1. post_operand l o.GreaterEqual x at (at + 1 + 1) seen1 (ex.greater_equal s r j) q))
      (λ seen1. post_operand l o.Greater x at (at + 1) seen1 (ex.mark s refl) q))

  post_shift_by : (l : ℕ) (x : Value) (p : Place) (at mid seen : ℕ) → IsShiftAt ts at p mid → level_of o.ShiftRight ≡ l → Post (OperatorTurn l x at) (shift_by limits d inner l x (Some p) ts mid seen)
  post_shift_by l x p at mid seen s q = by (fits_in limits x.1 (suc d))
    where
      by : (b : Bool) → Post (OperatorTurn l x at) ((if b then operand limits d inner l o.ShiftRight x else past code.TooNested p) ts mid seen)
      by true = post_operand l o.ShiftRight x at mid seen (subst (OperatorAt ts o.ShiftRight at) (sym s.4) (ex.shift_right s.1 s.2 s.3)) q
      by false = tt

  post_none : (l : ℕ) (x : Value) (at : ℕ) (t : Option Lexed) → PostChoice ts (OperatorTurn l x at) at t (Leave (pure None))
  post_none l x at (Some t) = λ seen1. refl
  post_none l x at None = λ seen1. refl

  post_operator_mark : (l : ℕ) (x : Value) (at : ℕ) (tok : Lexed) (mark : Mark) → Stands ts at (k.Mark mark) tok.place → (op : Option BinaryOperator) → binary_of mark ≡ op →
      PostChoice ts (OperatorTurn l x at) at (Some tok) (operator_mark limits d inner l x tok op)
  post_operator_mark l x at tok mark s None q = λ seen1. refl
  post_operator_mark l x at tok mark s (Some op) q = by (level_of op == l) refl
    where
      by : (b : Bool) → (level_of op == l) ≡ b → PostChoice ts (OperatorTurn l x at) at (Some tok) (if b then over limits d inner x (Some tok) (Take (operand limits d inner l op x)) else Leave (pure None))
      by true r = post_fits ts (OperatorTurn l x at) at (Some tok) (fits_in limits x.1 (suc d)) code.TooNested (Take (operand limits d inner l op x))
          (λ f seen1. post_operand l op x at (at + 1) seen1 (ex.mark s q) (eqb-true (level_of op) l r))
      by false r = λ seen1. refl

  -- `>`, `>=` and `>>`
  post_operator_greater : (l : ℕ) (x : Value) (at : ℕ) (tok : Lexed) → Stands ts at (k.Mark m.Greater) tok.place → PostChoice ts (OperatorTurn l x at) at (Some tok) (operator_by limits d inner l x tok (k.Mark m.Greater))
  post_operator_greater l x at tok s = by (l == level_of o.Greater) (l == level_of o.ShiftRight) refl refl
    where
      by : (a b : Bool) → (l == level_of o.Greater) ≡ a → (l == level_of o.ShiftRight) ≡ b →
          PostChoice ts (OperatorTurn l x at) at (Some tok) (if a then over limits d inner x (Some tok) (Take (greater limits d inner l tok.place x)) else (if b then Leave (attempt shift_ahead (shift_by limits d inner l x)) else Leave (pure None)))
      by true b p q = post_fits ts (OperatorTurn l x at) at (Some tok) (fits_in limits x.1 (suc d)) code.TooNested (Take (greater limits d inner l tok.place x))
          (λ f seen1. post_greater l tok.place x at seen1 s (sym (eqb-true l (level_of o.Greater) p)))
      by false true p q = λ seen1. post_attempt ts shift_ahead (shift_by limits d inner l x) at seen1 (IsShiftAt ts at) (OperatorTurn l x at) (fine_post (IsShiftAt ts at) (shift_ahead ts at seen1) (fine_shift_ahead ts at seen1))
          (λ b mid seen2 r. post_shift_by l x b at mid seen2 r (sym (eqb-true l (level_of o.ShiftRight) q))) (λ never seen2. refl)
      by false false p q = λ seen1. refl

  post_operator_by : (l : ℕ) (x : Value) (at : ℕ) (tok : Lexed) → first (drop at ts) ≡ Some tok → (kind : Kind) → tok.kind ≡ kind →
      PostChoice ts (OperatorTurn l x at) at (Some tok) (operator_by limits d inner l x tok kind)
  post_operator_by l x at tok e (k.Mark mark) q = by (is_mark m.Greater (k.Mark mark)) refl
    where
      by : (b : Bool) → is_mark m.Greater (k.Mark mark) ≡ b → PostChoice ts (OperatorTurn l x at) at (Some tok) (operator_by limits d inner l x tok (k.Mark mark))
      by true r = subst (λ a. PostChoice ts (OperatorTurn l x at) at (Some tok) (operator_by limits d inner l x tok (k.Mark a))) (same_mark m.Greater mark r)
          (post_operator_greater l x at tok (stands ts at tok (k.Mark m.Greater) e (q ∙ ap k.Mark (sym (same_mark m.Greater mark r)))))
      by false r = subst (PostChoice ts (OperatorTurn l x at) at (Some tok)) (sym (operator_other limits d inner l x tok mark r))
          (post_operator_mark l x at tok mark (stands ts at tok (k.Mark mark) e q) (binary_of mark) refl)
  post_operator_by l x at tok e k.Name q = λ seen1. refl
  post_operator_by l x at tok e (k.Word word) q = λ seen1. refl
  post_operator_by l x at tok e (k.Number v) q = λ seen1. refl
  post_operator_by l x at tok e k.String q = λ seen1. refl

  post_operator : (l : ℕ) (x : Value) (at seen : ℕ) → Post (OperatorTurn l x at) (operator limits d inner l x ts at seen)
  unfolding operator
  post_operator l x at seen = post_next ts (OperatorTurn l x at) (operator_at limits d inner l x) at seen go
    where
      go : (t : Option Lexed) → first (drop at ts) ≡ t → PostChoice ts (OperatorTurn l x at) at t (operator_at limits d inner l x t)
      go (Some tok) e = post_operator_by l x at tok e tok.kind refl
      go None e = λ seen1. refl

  post_level : (l at seen : ℕ) → Post (λ x to. LevelAt ts l x.0 at to) (level limits d inner l ts at seen)
  unfolding level BinariesAt IsUnaryAt
  post_level zero at seen = post_weaken (IsUnaryAt at) (λ x to. LevelAt ts zero x.0 at to) (λ x to r. ex.unary r) (unary limits d inner ts at seen) (post_unary at seen)
  post_level (suc l) at seen = post_bind ts (λ x to. LevelAt ts l x.0 at to) (λ x to. LevelAt ts (suc l) x.0 at to) (level limits d inner l) (repeats (operator limits d inner l) limits.turns) at seen (post_level l at seen)
      (λ x mid seen1 r. post_weaken (λ y to. BinaryAt ts l x.0 y.0 mid to) (λ y to. LevelAt ts (suc l) y.0 at to) (λ y to b. ex.binary r b) (repeats (operator limits d inner l) limits.turns x ts mid seen1)
      (post_repeats ts (λ a b from to. BinaryAt ts l a.0 b.0 from to) (BinariesAt l) (operator limits d inner l) (λ a from. ex.operand) (λ a b c from to last o q. o c.0 last q)
      (λ a from seen2. post_operator l a from seen2) limits.turns x mid seen1))

  -- ---- choices

  post_choice : (x : Value) (p : Place) (from at seen : ℕ) → LevelAt ts loosest x.0 from at → Stands ts at (k.Mark m.Question) p → Post (IsExprAt from) (choice limits d inner x ts (at + 1) seen)
  unfolding choice IsExprAt
  post_choice x p from at seen r s = post_bind ts (IsExprAt (at + 1)) (IsExprAt from) (whole limits d inner) _ (at + 1) seen (h (suc loosest) (at + 1) seen)
      (λ y mid seen1 u. post_bind ts (IsMarkAt ts m.Colon mid) (IsExprAt from) (expect m.Colon) _ mid seen1 (post_expect ts m.Colon mid seen1)
      (λ q mid2 seen2 t. post_bind ts (IsExprAt mid2) (IsExprAt from) (whole limits d inner) _ mid2 seen2 (h (suc loosest) mid2 seen2)
      (λ z to seen3 v. ex.choice r s u t.0 (subst (λ n. ExprAt ts z.0 n to) t.1 v))))

  post_choice_rest : (x : Value) (from at seen : ℕ) → LevelAt ts loosest x.0 from at → Post (IsExprAt from) (choice_rest limits d inner x ts at seen)
  unfolding choice_rest IsExprAt
  post_choice_rest x from at seen r = post_next ts (IsExprAt from) _ at seen (λ t e. by t e (sees m.Question t) refl)
    where
      by : (t : Option Lexed) → first (drop at ts) ≡ t → (b : Bool) → sees m.Question t ≡ b → PostChoice ts (IsExprAt from) at t (choice_by limits d inner x t b)
      by (Some tok) e true q = let u = sees_some m.Question (Some tok) q in
          post_fits ts (IsExprAt from) at (Some tok) (fits_in limits x.1 (suc d)) code.TooNested (Take (choice limits d inner x))
          (λ f seen1. post_choice x u.0.place from at seen1 r (stands ts at u.0 (k.Mark m.Question) (e ∙ u.1) u.2))
      by None e true q = cc
      by t e false q = λ seen1. ex.plain r

  post_at_level : (l at seen : ℕ) (b : Bool) → Post (λ x to. SpelledBy ts l b x.0 at to) (at_level limits d inner l b ts at seen)
  unfolding IsExprAt
  post_at_level l at seen true = post_bind ts (λ x to. LevelAt ts loosest x.0 at to) (IsExprAt at) (level limits d inner loosest) (choice_rest limits d inner) at seen (post_level loosest at seen)
      (λ x mid seen1 r. post_choice_rest x at mid seen1 r)
  post_at_level l at seen false = post_level l at seen

-- what is read of an expression is spelled
pub post_leveled : (ts : List Lexed) (limits : Limits) (d l at seen : ℕ) → Post (λ x to. SpelledAt ts l x.0 at to) (leveled limits d l ts at seen)
unfolding leveled
post_leveled ts limits zero l at seen = post_next ts (λ x to. SpelledAt ts l x.0 at to) _ at seen (λ x e. by x (begins x))
  where
    by : (x : Option Lexed) (b : Bool) → PostChoice ts (λ (y : Value) (to : ℕ). SpelledAt ts l y.0 at to) at x (if b then if_fits false code.TooNested x (Take (past code.TooNested (place_of x))) else Refuse)
    by x true = tt
    by x false = tt
post_leveled ts limits (suc d) l at seen = post_at_level ts limits d (leveled limits d) (λ l at seen. post_leveled ts limits d l at seen) l at seen (l == suc loosest)
