-- A token of the program, as one of the list of tokens with their bytes.
use Rattle.std.proofs.Common.{true, ◌≡◌, ◌<◌, ℕ, zero, suc, ◌+◌, List, [], ◌∷◌, length, drop, Some, None, refl, sym, ◌∙◌, ap, arith}
use Rattle.slang_tokens.specs.declared.tokens.Token.{Token}
use Rattle.slang_tokens.specs.declared.tokens.Mark.TheVariants as m
use Rattle.slang_reading.specs.Lexed.{lexed, lexed_all}
use Rattle.slang_reading.specs.Reading.{first}
use Rattle.slang_reading.specs.Kinds.{is_mark, sees}
use Rattle.ahead_reading.specs.declared.scans.Scans.{Scans}
use Rattle.ahead_reading.specs.declared.brackets.Brackets.{Brackets}
use Rattle.ahead_reading.specs.declared.brackets.Next.{Next}
use Rattle.ahead_reading.specs.Knowing.{Knows}
use Rattle.ahead_reading.specs.Brackets.{AllCome, Behind, Takes}

module _ (text : List ℕ) where
  pub listed : (tokens : List Token) (at : ℕ) (token : Token) → Some token ≡ first (drop at tokens) → first (drop at (lexed_all text tokens)) ≡ Some (lexed text token)
  listed [] zero token e = absurd cc
  listed [] (suc at) token e = absurd cc
  listed (x ∷ tokens) zero token e = let p : x ≡ token = cc in ap (λ y. Some (lexed text y)) p
  listed (x ∷ tokens) (suc at) token e = listed tokens at token e

  pub not_listed : (tokens : List Token) (at : ℕ) → None ≡ first (drop at tokens) → first (drop at (lexed_all text tokens)) ≡ None
  not_listed [] zero e = refl
  not_listed [] (suc at) e = refl
  not_listed (x ∷ tokens) zero e = absurd cc
  not_listed (x ∷ tokens) (suc at) e = not_listed tokens at e

  pub less_listed : (tokens : List Token) (at : ℕ) (token : Token) → Some token ≡ first (drop at tokens) → true ≡ is_mark m.Less token.kind → sees m.Less (first (drop at (lexed_all text tokens))) ≡ true
  less_listed tokens at token e q = ap (sees m.Less) (listed tokens at token e) ∙ sym q

  pub taken_listed : (tokens : List Token) (at : ℕ) (token : Token) (old new : Brackets) (known told : Scans) (next : Next) → Some token ≡ first (drop at tokens) → Takes at token.kind old known next new told →
      AllCome (lexed_all text tokens) at old → Knows known (lexed_all text tokens) → Behind (lexed_all text tokens) (at + 1) next new × Knows told (lexed_all text tokens)
  taken_listed tokens at token old new known told next e h a k = h (lexed_all text tokens) (lexed text token) (listed tokens at token e) refl a k

pub within_list : (tokens : List Token) (at : ℕ) (token : Token) → Some token ≡ first (drop at tokens) → at < length tokens
within_list [] zero token e = absurd cc
within_list [] (suc at) token e = absurd cc
within_list (x ∷ tokens) zero token e = omega arith
within_list (x ∷ tokens) (suc at) token e = let h = within_list tokens at token e in omega (arith, h)
