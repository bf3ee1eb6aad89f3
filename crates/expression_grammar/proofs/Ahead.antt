-- What is looked at ahead passes no limit: a cast's word and parenthesis, a shift's two marks, and generic arguments where
-- there are as many turns as tokens.
use Rattle.std.proofs.Common.{Bool, true, false, ◌≡◌, ℕ, ◌+◌, ◌<◌, ◌≤◌, List, drop, length, Option, Some, None, refl, ap, subst, eqb-true, ◌&&◌, if◌then◌else◌, arith}
use Rattle.slang_names.specs.declared.places.Place.{Place}
use Rattle.slang_tree.specs.declared.types.Builtin.{Builtin}
use Rattle.slang_tokens.specs.declared.tokens.Kind.{Kind}
use Rattle.slang_tokens.specs.declared.tokens.Kind.TheVariants as k
use Rattle.slang_tokens.specs.declared.tokens.Mark.{Mark}
use Rattle.slang_tokens.specs.declared.tokens.Mark.TheVariants as m
use Rattle.slang_tokens.specs.declared.tokens.Word.{Word}
use Rattle.slang_reading.specs.Lexed.{Lexed}
use Rattle.slang_reading.specs.Reading.{pure, first, Choice, Leave, Take, Refuse}
use Rattle.slang_reading.specs.Kinds.{is_mark}
use Rattle.slang_reading.proofs.Marks.{mark_is}
use Rattle.slang_reading.proofs.Fine.{Fine, fine_bind, FineChoice, fine_next}
use Rattle.slang_reading.proofs.Exact.{PostChoice}
use Rattle.slang_grammar.specs.Tables.{builtin_of}
use Rattle.slang_grammar.specs.Standing.{Stands}
use Rattle.slang_grammar.specs.Expressions.{follows}
use Rattle.slang_grammar.specs.Descent.{Limits, expect}
use Rattle.slang_grammar.specs.TypesDescent.{Arguments, arguments, types}
use Rattle.slang_grammar.specs.ExpressionsDescent.{freed, arguments_ahead, adjacent, joined, shift_ahead, cast_to, cast_word, cast_at, cast_ahead}
use Rattle.slang_grammar.proofs.Shared.{stands, IsMarkAt, fine_expect}
use Rattle.slang_grammar.proofs.TypesFree.{fine_types, fine_arguments}

module _ (ts : List Lexed) where
  -- ---- casts

  -- the word and the closing parenthesis of a cast
  abbrev pub IsCastAt : ℕ → Builtin → ℕ → Type 0
  IsCastAt at b to = (word : Word) × (p : Place) × (end : Place) × Stands ts at (k.Word word) p × (builtin_of word ≡ Some b) × Stands ts (at + 1) (k.Mark m.CloseParen) end × (to ≡ at + 1 + 1)

  pub fine_cast_ahead : (at seen : ℕ) → Fine (IsCastAt at) (cast_ahead ts at seen)
  unfolding cast_ahead
  fine_cast_ahead at seen = fine_next ts (IsCastAt at) cast_at at seen go
    where
      to : (tok : Lexed) (word : Word) → Stands ts at (k.Word word) tok.place → (o : Option Builtin) → builtin_of word ≡ o → FineChoice ts (IsCastAt at) at (Some tok) (cast_to o)
      to tok word s (Some b) q = λ seen1. fine_bind ts (IsMarkAt ts m.CloseParen (at + 1)) (IsCastAt at) (expect m.CloseParen) _ (at + 1) seen1 (fine_expect ts m.CloseParen (at + 1) seen1)
          (λ end mid seen2 r. let z : IsCastAt at b mid = (word, tok.place, end, s, q, r.0, r.1) in z)
      to tok word s None q = tt

      by : (tok : Lexed) → first (drop at ts) ≡ Some tok → (kind : Kind) → tok.kind ≡ kind → FineChoice ts (IsCastAt at) at (Some tok) (cast_word kind)
      by tok e (k.Word word) q = to tok word (stands ts at tok (k.Word word) e q) (builtin_of word) refl
      by tok e k.Name q = tt
      by tok e (k.Number v) q = tt
      by tok e k.String q = tt
      by tok e (k.Mark mark) q = tt

      go : (t : Option Lexed) → first (drop at ts) ≡ t → FineChoice ts (IsCastAt at) at t (cast_at t)
      go (Some tok) e = by tok e tok.kind refl
      go None e = tt

  -- ---- shifts

  -- a mark directly behind a place
  pub post_joined : {A : Type 0} (Q : A → ℕ → Type 0) (mark : Mark) (p : Place) (at : ℕ) (x : Option Lexed) → first (drop at ts) ≡ x → (c e : Choice A) →
      ((t : Lexed) → x ≡ Some t → Stands ts at (k.Mark mark) t.place → p.end ≡ t.place.start → PostChoice ts Q at x c) → PostChoice ts Q at x e → PostChoice ts Q at x (if joined mark p x then c else e)
  post_joined Q mark p at None e c u some none = none
  post_joined Q mark p at (Some t) e c u some none = by (is_mark mark t.kind) (adjacent p t.place) refl refl
    where
      by : (a b : Bool) → is_mark mark t.kind ≡ a → adjacent p t.place ≡ b → PostChoice ts Q at (Some t) (if a && b then c else u)
      by true true r s = some t refl (stands ts at t (k.Mark mark) e (mark_is mark t.kind r)) (eqb-true p.end t.place.start s)
      by true false r s = none
      by false b r s = none

  -- two marks `>`, one directly behind the other
  abbrev pub IsShiftAt : ℕ → Place → ℕ → Type 0
  IsShiftAt at p to = (q : Place) × Stands ts at (k.Mark m.Greater) p × Stands ts (at + 1) (k.Mark m.Greater) q × (p.end ≡ q.start) × (to ≡ at + 1 + 1)

  pub fine_shift_ahead : (at seen : ℕ) → Fine (IsShiftAt at) (shift_ahead ts at seen)
  unfolding shift_ahead
  fine_shift_ahead at seen = fine_bind ts (IsMarkAt ts m.Greater at) (IsShiftAt at) (expect m.Greater) _ at seen (fine_expect ts m.Greater at seen)
      (λ p mid seen1 s. fine_next ts (IsShiftAt at) _ mid seen1 (λ x e. go p mid s.0 s.1 x e))
    where
      by : (p : Place) (mid : ℕ) → Stands ts at (k.Mark m.Greater) p → mid ≡ at + 1 → (t : Lexed) → first (drop mid ts) ≡ Some t → (a b : Bool) → is_mark m.Greater t.kind ≡ a → adjacent p t.place ≡ b →
          FineChoice ts (IsShiftAt at) mid (Some t) (if a && b then Take (pure p) else Refuse)
      by p mid s n t e true true r j = λ seen2.
          let z : IsShiftAt at p (mid + 1) = (t.place, s, subst (λ i. Stands ts i (k.Mark m.Greater) t.place) n (stands ts mid t (k.Mark m.Greater) e (mark_is m.Greater t.kind r)), eqb-true p.end t.place.start j, ap (λ i. i + 1) n) in z
      by p mid s n t e true false r j = tt
      by p mid s n t e false b r j = tt

      go : (p : Place) (mid : ℕ) → Stands ts at (k.Mark m.Greater) p → mid ≡ at + 1 → (x : Option Lexed) → first (drop mid ts) ≡ x →
          FineChoice ts (IsShiftAt at) mid x (if joined m.Greater p x then Take (pure p) else Refuse)
      go p mid s n (Some t) e = by p mid s n t e (is_mark m.Greater t.kind) (adjacent p t.place) refl refl
      go p mid s n None e = tt

  -- ---- generic arguments

  pub fine_arguments_ahead : (limits : Limits) → length ts ≤ limits.turns → (at seen : ℕ) → Fine (λ (a : Arguments × Place) (to : ℕ). at < to) (arguments_ahead limits ts at seen)
  unfolding arguments_ahead
  fine_arguments_ahead limits long at seen =
      fine_bind ts (λ (a : Arguments × Place) (to : ℕ). at < to) (λ (a : Arguments × Place) (to : ℕ). at < to) (arguments (freed limits) true limits.turns (types (freed limits) limits.turns)) _ at seen
      (fine_arguments ts (freed limits) refl true limits.turns (types (freed limits) limits.turns) at (λ from seen1 b. fine_types ts (freed limits) refl limits.turns from seen1 (omega (arith, long)) (omega (arith, long)))
      (omega (arith, long)) (omega (arith, long)) at seen (omega arith))
      (λ a mid seen1 lt. fine_next ts (λ (a : Arguments × Place) (to : ℕ). at < to) (λ x. if follows x then Leave (pure a) else Refuse) mid seen1 (λ x e. by a mid lt x (follows x)))
    where
      by : (a : Arguments × Place) (mid : ℕ) → at < mid → (x : Option Lexed) (b : Bool) → FineChoice ts (λ (a : Arguments × Place) (to : ℕ). at < to) mid x (if b then Leave (pure a) else Refuse)
      by a mid lt (Some t) true = λ seen2. lt
      by a mid lt None true = λ seen2. lt
      by a mid lt (Some t) false = tt
      by a mid lt None false = tt
