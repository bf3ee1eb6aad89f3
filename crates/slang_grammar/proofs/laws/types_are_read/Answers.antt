use Rattle.std.proofs.Common.{◌≡◌, subst, ℕ, inl}
use Rattle.slang_grammar.specs.Heights.{height}
use Rattle.slang_grammar.specs.Types.{TypeAt}
use Rattle.slang_grammar.specs.TypesDescent.{types, Type_}
use Rattle.slang_reading.proofs.Exact.{Post, reads_done, reads_not_stopped}
use Rattle.slang_grammar.proofs.TypesSpelled.{post_types}
use Rattle.slang_grammar.proofs.TypesTall.{tall_types}
use Rattle.slang_grammar.proofs.TypesRead.{reads_type, type_within}
use Rattle.slang_grammar.proofs.TypesWrong.{types_go_on}
use Rattle.slang_grammar.proofs.TypesOne.{one_type}
use Rattle.slang_grammar.proofs.laws.types_are_read.Goals as goal

pub returns-clause-spelled : goal.returns-clause-spelled
returns-clause-spelled c = λ ts limits d at seen to seen1 x e. subst (Post (λ (y : Type_) (end : ℕ). TypeAt ts y.0 at end)) e (post_types ts limits d at seen)

pub returns-clause-tall : goal.returns-clause-tall
returns-clause-tall c = λ ts limits d at seen to seen1 x e. subst (Post (λ (y : Type_) (end : ℕ). height y.0 ≡ y.1)) e (tall_types ts limits d at seen)

pub returns-clause-not_stopped : goal.returns-clause-not_stopped
returns-clause-not_stopped c = λ ts limits d at seen to seen1 x s q e.
    reads_not_stopped (Unit {0}) (types limits d) ts at seen (x, height x) to seen1 (reads_type (Unit {0}) tt limits s q d seen) e

pub returns-clause-goes_on : goal.returns-clause-goes_on
returns-clause-goes_on c = types_go_on

pub returns-clause-answered : goal.returns-clause-answered
returns-clause-answered c = λ ts limits d at seen to x s q f nodes items.
    reads_done (types limits d) ts at seen (x, height x) to (type_within ⊥ limits s q d seen (inl (f, record { nodes = nodes; items = items })))

pub returns-clause-one_tree : goal.returns-clause-one_tree
returns-clause-one_tree c = one_type
