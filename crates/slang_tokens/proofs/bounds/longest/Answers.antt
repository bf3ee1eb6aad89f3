use Rattle.std.proofs.Common.{◌≡◌, sym, ◌∙◌, arith, subst, ℕ, List}
use Rattle.slang_tokens.specs.Lexemes.{Bounds}
use Rattle.slang_tokens.proofs.Lengths.{shorter, found, one_byte}
use Rattle.slang_tokens.proofs.bounds.longest.Goals as goal

pub loop-len-preserved : goal.loop-len-preserved
loop-len-preserved c = record {
  some = omega arith;
  within = omega arith;
  none_longer = shorter c.args.bytes.now c.loop-len.len (omega arith) c.loop-len.invariant.none_longer (sym c.lexeme_of.ensures ∙ c.in_default.is);
}

pub returns-in-Some : goal.returns-in-Some
returns-in-Some c = found c.args.bytes.now c.in-Some.found c.loop-len.len (omega arith) (omega arith) c.loop-len.invariant.none_longer (sym c.lexeme_of.ensures ∙ c.in-Some.is)

one : (bytes : List ℕ) (len : ℕ) → len ≡ 1 → Bounds bytes len → Bounds bytes 1
one bytes len e b = subst (Bounds bytes) e b

pub returns-in-Some-lexeme_of : goal.returns-in-Some-lexeme_of
returns-in-Some-lexeme_of c =
    found c.args.bytes.now c.in-Some-lexeme_of.found 1 (omega arith) (omega arith) (one c.args.bytes.now c.loop-len.len (omega arith) c.loop-len.invariant.none_longer)
    (sym c.lexeme_of-2.ensures ∙ c.in-Some-lexeme_of.is)

pub returns-in-None : goal.returns-in-None
returns-in-None c = absurd (one_byte c.args.bytes.now (omega arith) (sym c.lexeme_of-2.ensures ∙ c.in-None.is))
