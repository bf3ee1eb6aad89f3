-- Words, access words and rules on attributes: what was looked at, but for the last token, goes on.
use Rattle.std.proofs.Common.{Bool, true, false, ◌≡◌, ℕ, [], ◌∷◌, List, Option, Some, None, refl, ap, eq-eqb, if◌then◌else◌}
use Rattle.slang_names.specs.declared.places.Place.{Place}
use Rattle.slang_names.specs.declared.places.Access.{Access}
use Rattle.slang_tokens.specs.declared.tokens.Kind.TheVariants as k
use Rattle.slang_tokens.specs.declared.tokens.Word.{Word}
use Rattle.slang_reading.specs.Lexed.{Lexed}
use Rattle.slang_reading.specs.Reading.{Parser, Choice, Take, Refuse, pure, next, ◌>>=◌}
use Rattle.slang_reading.specs.Kinds.{word_code, is_word}
use Rattle.slang_reading.proofs.Viable.{Finishes, Viable, viable_pure, finishes_pure, viable_bind, EachPair, finishes_next_take, finishes_next_end, viable_next, Ready}
use Rattle.slang_grammar.specs.Descent.{Limits}
use Rattle.slang_grammar.proofs.TypesReady.{Any}
use Rattle.statement_grammar.specs.declared.attributes.Target.{Target}
use Rattle.statement_grammar.specs.AttributesDescent.{Noted, misfit, suited, if_suits}
use Rattle.statement_ends.proofs.Roomy.{roomy, word}
use Rattle.statement_ends.proofs.Attributes.{pair_obeyed}
use Rattle.declaration_grammar.specs.Parts.{access_at}
use Rattle.declaration_grammar.specs.PartsDescent.{word_expected, expect_word, accessed, access}

module _ (F : Option Lexed → Type 0) (a : Word) where
  is_self : (p : Place) (bytes : List ℕ) → word_expected a (Some (record { kind = k.Word a; place = p; bytes = bytes })) ≡ Take (pure p)
  is_self p bytes = ap (λ b. if b then Take (pure p) else Refuse) (eq-eqb (word_code a) (word_code a) refl)

  pub ready_word : Ready F (word a ∷ []) (expect_word a) (expect_word a)
  unfolding expect_word
  ready_word = record { viable = viable_next F (word_expected a) (word_expected a) (word a ∷ []) finishes go; finishes = finishes }
    where
      finishes : Finishes F (word a ∷ []) (next (word_expected a))
      finishes = finishes_next_take F (word_expected a) (word a) [] (pure (record { start = 0; end = 0 })) (is_self _ []) (finishes_pure F _)

      by : (t : Lexed) (b : Bool) → EachPair (Viable F) (if b then Take (pure t.place) else Refuse) (if b then Take (pure t.place) else Refuse)
      by t true = viable_pure F t.place
      by t false = tt

      go : (x : Option Lexed) → EachPair (Viable F) (word_expected a x) (word_expected a x)
      go (Some t) = by t (is_word a t.kind)
      go None = tt

-- no access word
abbrev pub Unaccessed : Option Lexed → Type 0
Unaccessed x = access_at x ≡ None

pub ready_access : Ready Unaccessed [] access access
unfolding access
ready_access = record { viable = viable_next Unaccessed (λ x. accessed (access_at x)) (λ x. accessed (access_at x)) [] finishes (λ x. by (access_at x)); finishes = finishes }
  where
    finishes : Finishes Unaccessed [] (next (λ x. accessed (access_at x)))
    finishes = finishes_next_end Unaccessed (λ x. accessed (access_at x)) (λ x. pure None) (λ x f. ap accessed f) (λ x. finishes_pure Unaccessed None)

    by : (a : Option Access) → EachPair (Viable Unaccessed) (accessed a) (accessed a)
    by (Some a) = viable_pure Unaccessed (Some a)
    by None = viable_pure Unaccessed None

pair_suited : {A : Type 0} (F : Option Lexed → Type 0) (b : Bool) (p : Option Place) (c d : Choice A) → EachPair (Viable F) c d → EachPair (Viable F) (suited b p c) d
pair_suited F true p c d v = v
pair_suited F false None c d v = v
pair_suited F false (Some place) c d v = pair_obeyed F false place c d v

-- attributes that do not fit, which the larger one lets stand
pub pair_suits : {A : Type 0} (F : Option Lexed → Type 0) (limits : Limits) (target : Target) (list : Noted) (c d : Choice A) → EachPair (Viable F) c d →
    EachPair (Viable F) (if_suits limits target list c) (if_suits (roomy limits) target list d)
pair_suits F limits target list c d v = pair_suited F limits.free (misfit target list) c d v

-- the last step is pure, behind what any token may follow
pub viable_last : {A B : Type 0} (g : A → B) (p q : Parser A) → Viable Any p q → Viable Any (p >>= (λ a. pure (g a))) (q >>= (λ a. pure (g a)))
viable_last g p q v = viable_bind Any Any q (λ a. pure (g a)) [] (λ rest f. tt) p (λ a. pure (g a)) v (λ a. viable_pure Any _) (λ a. finishes_pure Any _)
