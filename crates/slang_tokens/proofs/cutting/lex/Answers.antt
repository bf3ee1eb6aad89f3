use Rattle.std.proofs.Common.{◌≡◌, ◌-◌, ◌+◌, ◌++◌, ◌∷◌, [], sym, ◌∙◌, arith, rules, subst}
use Rattle.slang_names.specs.declared.codes.ModuleCode.TheVariants as code
use Rattle.slang_tokens.specs.declared.lexemes.Lexeme.TheVariants as x
use Rattle.slang_tokens.specs.Cutting as cut
use Rattle.slang_tokens.proofs.Cuts.{SoFar, ended, blank_on, token, token_on, one_cutting, none_refused, longest_as, refusal_is}
use Rattle.slang_tokens.proofs.cutting.lex.Goals as goal
use Rattle.slang_tokens.proofs.cutting.lex.Goals.{in-Blank, in-Token+in_ok-map_err-in-Token}

pub returns-in-Refused-clause-only : goal.returns-in-Refused-clause-only
returns-in-Refused-clause-only c = λ list t.
    none_refused c.args.text.now 0 _ c.in-Refused.code list
    (c.loop-at.invariant.refused (cut.place c.loop-at.at (c.loop-at.at + c.longest-found.result.1)) c.in-Refused.code
    (cut.here (longest_as c.args.text.now c.loop-at.at _ _ (x.Refused c.in-Refused.code) c.longest-found.ensures c.in-Refused.is))) t

pub returns-in-Refused-clause-refused : goal.returns-in-Refused-clause-refused
returns-in-Refused-clause-refused c = λ place code e.
    refusal_is c.args.text.now (cut.place c.loop-at.at (c.loop-at.at + c.longest-found.result.1)) place c.in-Refused.code code
    (c.loop-at.invariant.refused (cut.place c.loop-at.at (c.loop-at.at + c.longest-found.result.1)) c.in-Refused.code
    (cut.here (longest_as c.args.text.now c.loop-at.at _ _ (x.Refused c.in-Refused.code) c.longest-found.ensures c.in-Refused.is))) e

pub returns-in-RunsOn-clause-only : goal.returns-in-RunsOn-clause-only
returns-in-RunsOn-clause-only c = λ list t.
    none_refused c.args.text.now 0 _ code.BadToken list
    (c.loop-at.invariant.refused (cut.place c.loop-at.at (c.loop-at.at + c.longest-found.result.1 - 1)) code.BadToken
    (cut.runs_on (longest_as c.args.text.now c.loop-at.at _ _ x.RunsOn c.longest-found.ensures c.in-RunsOn.is))) t

pub returns-in-RunsOn-clause-refused : goal.returns-in-RunsOn-clause-refused
returns-in-RunsOn-clause-refused c = λ place k e.
    refusal_is c.args.text.now (cut.place c.loop-at.at (c.loop-at.at + c.longest-found.result.1 - 1)) place code.BadToken k
    (c.loop-at.invariant.refused (cut.place c.loop-at.at (c.loop-at.at + c.longest-found.result.1 - 1)) code.BadToken
    (cut.runs_on (longest_as c.args.text.now c.loop-at.at _ _ x.RunsOn c.longest-found.ensures c.in-RunsOn.is))) e

pub loop-at-preserved : goal.loop-at-preserved
loop-at-preserved c = elim c.match-found.branch [
  | in-Blank w ↦ subst (SoFar c.args.text.now (c.loop-at.at + c.longest-found.result.1)) (sym w.list-is)
      (blank_on c.args.text.now c.loop-at.at c.longest-found.result.1 c.loop-at.list c.loop-at.invariant (omega arith)
      (longest_as c.args.text.now c.loop-at.at _ _ x.Blank c.longest-found.ensures w.in-Blank.is))
  | in-Token+in_ok-map_err-in-Token w ↦
      let pushed : w.push.new.self ≡ c.loop-at.list ++ token w.in-Token.kind c.loop-at.at (c.loop-at.at + c.longest-found.result.1) ∷ [] = search rules in
      subst (SoFar c.args.text.now (c.loop-at.at + c.longest-found.result.1)) (sym (w.list-is ∙ pushed))
      (token_on c.args.text.now c.loop-at.at c.longest-found.result.1 c.loop-at.list c.loop-at.invariant (omega arith) w.in-Token.kind
      (longest_as c.args.text.now c.loop-at.at _ _ (x.Token w.in-Token.kind) c.longest-found.ensures w.in-Token.is))
]

pub returns-clause-ok : goal.returns-clause-ok
returns-clause-ok c = ended c.args.text.now c.loop-at.at c.loop-at.list c.loop-at.invariant (omega arith)

pub returns-clause-only : goal.returns-clause-only
returns-clause-only c = λ list t. one_cutting c.args.text.now 0 c.loop-at.list list (ended c.args.text.now c.loop-at.at c.loop-at.list c.loop-at.invariant (omega arith)) t
