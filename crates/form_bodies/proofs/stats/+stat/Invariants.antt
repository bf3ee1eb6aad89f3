use Rattle.std.proofs.Common.{◌≡◌, ◌+◌, ◌-◌, ◌*◌, map}
use Rattle.form_grammar.specs.Trees.{nested}
use Rattle.form_grammar.specs.Grammar as form
use Rattle.form_grammar.specs.Reading.{form_at, nested_at, items_at}
use Rattle.form_grammar.proofs.Loops.{behind_these}
use Rattle.slang_core.specs.BodyTrees.{stat_tree}
use Rattle.form_bodies.proofs.stats.+stat.Given as goal

abbrev pub decreases-stat_of : goal.decreases-stat_of
decreases-stat_of l = 8 * l.level.depth

abbrev pub decreases-stat_at : goal.decreases-stat_at
decreases-stat_at l = 8 * l.level.depth + 1

abbrev pub decreases-stat_items : goal.decreases-stat_items
decreases-stat_items l = 8 * l.level.depth + 2

abbrev pub decreases-parts_of : goal.decreases-parts_of
decreases-parts_of l = 8 * l.level.depth + 2

abbrev pub decreases-stats_of : goal.decreases-stats_of
decreases-stats_of l = 8 * l.level.depth + 3

abbrev pub decreases-stat_body : goal.decreases-stat_body
decreases-stat_body l = 8 * l.level.depth + 4

abbrev pub invariant-stat_items-loop : goal.invariant-stat_items-loop
invariant-stat_items-loop l =
    let item = form_at (nested_at l.level.depth) (form.part form.Stat) in
    behind_these (map (λ s. nested (stat_tree s)) l.items) (items_at item (l.count - l.counter) l.rest) ≡ items_at item l.count l.bytes
