use Rattle.std.proofs.Common.{◌≡◌, Some, None, arith, sym, ap, ◌∙◌}
use Rattle.image_declarations.specs.Decorations.{mark, literal_of}
use Rattle.image_facts.proofs.Marks.{decoration-is}
use Rattle.run_plans.proofs.buffers.literal_of.Goals as goal

pub returns-in-Some : goal.returns-in-Some
returns-in-Some c =
    let code = c.args.declarations.now in
    let is : mark code 0 c.args.id c.args.kind ≡ Some c.in-Some.mark = grind arith in
    sym (decoration-is code 0 c.args.id c.args.kind ∙ ap literal_of is)

pub returns-in-None : goal.returns-in-None
returns-in-None c =
    let code = c.args.declarations.now in
    let is : mark code 0 c.args.id c.args.kind ≡ None = grind arith in
    sym (decoration-is code 0 c.args.id c.args.kind ∙ ap literal_of is)
