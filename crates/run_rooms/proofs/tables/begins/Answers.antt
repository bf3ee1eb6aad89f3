use Rattle.std.proofs.Common.{◌≡◌, ℕ, List, length, subst, sym}
use Rattle.std.proofs.lemmas.Result.{IfErr-weaker, IfOk-weaker}
use Rattle.spirv_words.specs.declared.images.Instruction.{Instruction}
use Rattle.call_layout.specs.declared.faults.Fault.TheVariants.{TooLarge}
use Rattle.call_layout.specs.Chains.{AreBegins, TooLong}
use Rattle.run_rooms.specs.Calls.{AreCalls}
use Rattle.run_rooms.specs.Needs.{HasLongChain}
use Rattle.run_rooms.specs.Tables.{AreStarts}
use Rattle.run_rooms.proofs.Chained.{numbered, starts, too-long}
use Rattle.run_rooms.proofs.Listed.{every-call}
use Rattle.run_rooms.proofs.tables.begins.Goals as goal

pub begins-requires-clause-known : goal.begins-requires-clause-known
begins-requires-clause-known c =
    let code : List Instruction = c.args.definitions.now in
    let listed : AreCalls code (length code) c.as_slice-in-Some.result.now =
    subst (λ (es : List (ℕ × ℕ)). AreCalls code (length code) es) (sym c.as_slice-in-Some.ensures.value) c.in_ok-edges.ensures in
    numbered code c.requires.keeps c.args.words.now c.as_slice-in-Some.result.now c.requires.words listed.made

pub returns-clause-starts : goal.returns-clause-starts
returns-clause-starts c =
    let code : List Instruction = c.args.definitions.now in
    let es = c.as_slice-in-Some.result.now in
    let listed : AreCalls code (length code) c.as_slice-in-Some.result.now =
    subst (λ (es : List (ℕ × ℕ)). AreCalls code (length code) es) (sym c.as_slice-in-Some.ensures.value) c.in_ok-edges.ensures in
    IfOk-weaker c.begins.result (λ b. AreBegins c.args.words.now c.as_slice-in-Some.result.now b.items) (λ b. AreStarts code b.items)
    (λ b h. starts code c.requires.keeps c.args.words.now c.as_slice-in-Some.result.now c.requires.words listed.made b.items (every-call code c.as_slice-in-Some.result.now listed) h) c.begins.ensures.begins

pub returns-clause-too_large : goal.returns-clause-too_large
returns-clause-too_large c =
    let code : List Instruction = c.args.definitions.now in
    let listed : AreCalls code (length code) c.as_slice-in-Some.result.now =
    subst (λ (es : List (ℕ × ℕ)). AreCalls code (length code) es) (sym c.as_slice-in-Some.ensures.value) c.in_ok-edges.ensures in
    IfErr-weaker c.begins.result (λ fault. fault ≡ TooLarge → TooLong c.args.words.now c.as_slice-in-Some.result.now) (λ fault. fault ≡ TooLarge → HasLongChain code)
    (λ fault h e. too-long code c.requires.keeps c.args.words.now c.as_slice-in-Some.result.now c.requires.words listed.made (h e)) c.begins.ensures.too_large
