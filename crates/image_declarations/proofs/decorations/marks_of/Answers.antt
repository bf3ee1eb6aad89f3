use Rattle.std.proofs.Common.{length, drop, ℕ, List, sym, subst}
use Rattle.spirv_words.specs.declared.images.Instruction.{Instruction}
use Rattle.image_declarations.specs.Decorations.{Marks}
use Rattle.image_declarations.proofs.Behind.{one_less}
use Rattle.image_declarations.proofs.Marked.{marks-more}
use Rattle.image_declarations.proofs.decorations.marks_of.Goals as goal

pub loop-last-preserved-in_ok-insert-in-Some-decoration_of : goal.loop-last-preserved-in_ok-insert-in-Some-decoration_of
loop-last-preserved-in_ok-insert-in-Some-decoration_of c =
    let s = one_less c.args.code.now c.loop-last.left.now c.in-Some.before.now c.in-Some.last.now c.in-Some.ensures.cases.0 c.loop-last.invariant.0 in
    let old = subst (λ (n : ℕ). Marks c.loop-last.marks (drop (length c.loop-last.left.now) c.args.code.now) n) s.longer c.loop-last.invariant.1 in
    let new = marks-more c.loop-last.marks c.insert.new.self c.in-Some.last.now (drop (length c.loop-last.left.now) c.args.code.now) (length c.in-Some.before.now) c.in-Some-decoration_of.key c.in-Some-decoration_of.literal old (sym c.in-Some-decoration_of.ensures) c.in_ok-insert-in-Some-decoration_of.ensures.updates.0 in
    (s.whole, subst (λ (l : List Instruction). Marks c.insert.new.self l (length c.in-Some.before.now)) (sym s.behind) new)
