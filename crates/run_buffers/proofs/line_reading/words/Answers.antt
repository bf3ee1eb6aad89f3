use Rattle.std.proofs.Common.{◌≡◌, ℕ, ◌+◌, ◌-◌, List, [], ◌∷◌, ◌++◌, length, ap, ◌∙◌, subst, sym, refl, arith}
use Rattle.std.specs.List.{AllByRecursion}
use Rattle.std.proofs.lemmas.List.{append-nil, length_push}
use Rattle.std.proofs.lemmas.Grind.{common_steps}
use Rattle.run_buffers.specs.Texts.{line, IsWord}
use Rattle.run_buffers.specs.Parts.{Stops}
use Rattle.run_buffers.specs.Lines.{AreWords}
use Rattle.run_buffers.proofs.Words.{narrow_push, joins_word}
use Rattle.run_buffers.proofs.line_reading.words.Goals as goal

pub loop-i-preserved : goal.loop-i-preserved
loop-i-preserved c =
    let word = c.in_ok-word.word in
    let pushed : c.push.new.self ≡ c.loop-i.words ++ c.in_ok-word.word ∷ [] = grind (arith, common_steps) in
    let more : c.args.count - 1 - c.loop-i.i ≡ c.args.count - (c.loop-i.i + 1) = omega arith in
    let here : c.args.count - 1 - c.loop-i.i + 1 ≡ c.args.count - c.loop-i.i = omega arith in
    record {
      many = ap length pushed ∙ (length_push c.loop-i.words c.in_ok-word.word ∙ ap (λ (n : ℕ). n + 1) c.loop-i.invariant.many);
      narrow = subst (AllByRecursion IsWord) (sym pushed) (narrow_push c.loop-i.words c.in_ok-word.word c.loop-i.invariant.narrow c.in_ok-word.ensures.narrow);
      joins = λ ws behind many e.
          joins_word c.loop-i.words c.in_ok-word.word (c.args.count - 1 - c.loop-i.i) ws c.args.bytes.now c.loop-i.rest.now c.in_ok-word.behind.now behind (omega arith) c.in_ok-word.ensures.read e
          (c.loop-i.invariant.joins (c.in_ok-word.word ∷ ws) behind (omega arith))
          ∙ ap (λ (us : List ℕ). line (us ++ ws) ++ behind) (sym pushed);
      goes_on = λ left s.
          c.loop-i.invariant.goes_on left
          (subst (λ (n : ℕ). Stops line (AreWords n) c.loop-i.rest.now left) here
          (c.in_ok-word.ensures.goes_on left (subst (λ (n : ℕ). Stops line (AreWords n) c.in_ok-word.behind.now left) (sym more) s)));
    }

pub returns-clause-read : goal.returns-clause-read
returns-clause-read c =
    c.loop-i.invariant.joins _ c.loop-i.rest.now (omega arith) refl ∙ ap (λ (us : List ℕ). line us ++ c.loop-i.rest.now) (append-nil c.loop-i.words)
