use Rattle.std.proofs.Common.{◌∙◌, ◌||◌, suc, take, drop, not, List, sym, ap}
use Rattle.std.specs.HashSet.{contains}
use Rattle.spirv_words.specs.declared.images.Instruction.{Instruction}
use Rattle.image_declarations.specs.Decorations.{same_pair}
use Rattle.image_types.specs.declared.functions.Context.{Context}
use Rattle.image_operands.specs.Marks.{is_taken, taken_in, completed, clashes}
use Rattle.image_types.specs.Checking.{fits, context_at}
use Rattle.image_types.proofs.Walk.{taken_in-same}
use Rattle.image_types.proofs.checking.is_wrong.Goals as goal

pub returns-then-taken-clause-told : goal.returns-then-taken-clause-told
unfolding clashes
returns-then-taken-clause-told c =
    let code = c.args.image.now in
    let i = c.args.instruction.now in
    let told = c.in_ok-taken.ensures.told ∙ ap (taken_in (contains same_pair c.args.pairs.now)) c.completed.ensures
    ∙ taken_in-same (contains same_pair c.args.pairs.now) (is_taken code (take c.args.place code) 0) (completed code c.args.place i) c.requires.pairs in
    c.if-taken.true ∙ sym (ap (λ b. b || not (fits code (context_at code c.args.place) c.args.place i (drop (suc c.args.place) code))) (sym told ∙ c.if-taken.true))

pub returns-else-taken-clause-told : goal.returns-else-taken-clause-told
unfolding clashes
returns-else-taken-clause-told c =
    let code = c.args.image.now in
    let i = c.args.instruction.now in
    let k = c.args.place in
    let told = c.in_ok-taken.ensures.told ∙ ap (taken_in (contains same_pair c.args.pairs.now)) c.completed.ensures
    ∙ taken_in-same (contains same_pair c.args.pairs.now) (is_taken code (take k code) 0) (completed code k i) c.requires.pairs in
    ap not (c.fits.ensures
    ∙ ap (λ (x : Context). fits code x k i c.behind-behind.result.now) c.requires.context
    ∙ ap (λ (rest : List Instruction). fits code (context_at code k) k i rest) (c.behind-behind.ensures ∙ ap (λ (code : List Instruction). drop (suc k) code) c.code.ensures))
    ∙ sym (ap (λ b. b || not (fits code (context_at code k) k i (drop (suc k) code))) (sym told ∙ c.if-taken.false))
