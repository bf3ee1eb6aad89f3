-- What of a statement within the limits is within them too, where its attributes obey the rules.
use Rattle.std.proofs.Common.{true, ◌≡◌, ℕ, zero, suc, ◌≤◌, ◌&&◌, ◌||◌, max, List, [], ◌∷◌, ◌++◌, map, Option, refl, sym, ◌∙◌, ap, arith, rules}
use Rattle.slang_names.specs.declared.places.Place.{Place}
use Rattle.slang_tree.specs.declared.expressions.ExprTree.{ExprTree}
use Rattle.slang_tree.specs.declared.statements.Attribute.{Attribute}
use Rattle.slang_tree.specs.declared.statements.Local.{Local}
use Rattle.slang_tree.specs.declared.statements.Change.{Change}
use Rattle.slang_tree.specs.declared.statements.LoopStart.{LoopStart}
use Rattle.slang_tree.specs.declared.statements.StatTree.{StatTree, the_lemmas}
use Rattle.slang_tree.specs.declared.statements.StatNode.TheVariants as s
use Rattle.slang_reading.specs.Lexed.{Lexed}
use Rattle.slang_grammar.specs.Descent.{Limits}
use Rattle.slang_grammar.specs.Heights.{greatest}
use Rattle.expression_grammar.specs.Sizes.{Fits}
use Rattle.statement_grammar.specs.declared.attributes.Target.TheVariants as target
use Rattle.statement_grammar.specs.AttributeRules.{obeys, all_true, stat_obeys}
use Rattle.statement_grammar.specs.Statements as t
use Rattle.statement_grammar.specs.Statements.{stated, StatAt, StatsAt}
use Rattle.statement_fits.specs.Sizes.{Count, optional, in_local, in_change, in_attributes, in_head, in_stat, nodes, Keeps, StatFits, BlockFits}
use Rattle.statement_fits.proofs.Fitting.{and_left, and_right, and_both, or_map, or_left, or_right, less, inside, value_fits, max_left, max_right, front_fits, last_fits}

true_front : (xs : List StatTree) (x : StatTree) → all_true (map stat_obeys (xs ++ x ∷ [])) ≡ true → all_true (map stat_obeys xs) ≡ true
true_front [] x h = refl
true_front (y ∷ ys) x h = and_both (stat_obeys y) (all_true (map stat_obeys ys)) (and_left (stat_obeys y) (all_true (map stat_obeys (ys ++ x ∷ []))) h)
    (true_front ys x (and_right (stat_obeys y) (all_true (map stat_obeys (ys ++ x ∷ []))) h))

true_last : (xs : List StatTree) (x : StatTree) → all_true (map stat_obeys (xs ++ x ∷ [])) ≡ true → stat_obeys x ≡ true
true_last [] x h = and_left (stat_obeys x) true h
true_last (y ∷ ys) x h = true_last ys x (and_right (stat_obeys y) (all_true (map stat_obeys (ys ++ x ∷ []))) h)

-- ---- what is counted in each node, and which rules are obeyed

module _ (count : Count) (p : Place) where
  pub of_block : (list : List StatTree) → in_stat count (stated p (s.Block list)) ≡ count.over (greatest (map (in_stat count) list))
  of_block list = search (rules, the_lemmas)

  pub of_local : (x : Local) → in_stat count (stated p (s.Local x)) ≡ count.over (in_local count x)
  of_local x = search (rules, the_lemmas)

  pub of_change : (x : Change) → in_stat count (stated p (s.Change x)) ≡ count.over (in_change count x)
  of_change x = search (rules, the_lemmas)

  pub of_if : (x : ExprTree) (y : StatTree) → in_stat count (stated p (s.If x y)) ≡ count.over (max (count.of_value x) (in_stat count y))
  of_if x y = search (rules, the_lemmas)

  pub of_else : (x : ExprTree) (y z : StatTree) → in_stat count (stated p (s.IfElse x y z)) ≡ count.over (max (count.of_value x) (max (in_stat count y) (in_stat count z)))
  of_else x y z = search (rules, the_lemmas)

  pub of_for : (list : List Attribute) (x : LoopStart) (y : Option ExprTree) (z : Option Change) (body : StatTree) →
      in_stat count (stated p (s.For list x y z body)) ≡ count.over (max (in_attributes count list) (max (in_head count x y z) (in_stat count body)))
  of_for list x y z body = search (rules, the_lemmas)

  pub of_while : (list : List Attribute) (x : ExprTree) (body : StatTree) → in_stat count (stated p (s.While list x body)) ≡ count.over (max (in_attributes count list) (max (count.of_value x) (in_stat count body)))
  of_while list x body = search (rules, the_lemmas)

  pub of_return : (x : Option ExprTree) → in_stat count (stated p (s.Return x)) ≡ count.over (optional count.of_value x)
  of_return x = search (rules, the_lemmas)

pub rules_block : (p : Place) (list : List StatTree) → stat_obeys (stated p (s.Block list)) ≡ all_true (map stat_obeys list)
rules_block p list = search (rules, the_lemmas)

pub rules_if : (p : Place) (x : ExprTree) (y : StatTree) → stat_obeys (stated p (s.If x y)) ≡ stat_obeys y
rules_if p x y = search (rules, the_lemmas)

pub rules_else : (p : Place) (x : ExprTree) (y z : StatTree) → stat_obeys (stated p (s.IfElse x y z)) ≡ (stat_obeys y && stat_obeys z)
rules_else p x y z = search (rules, the_lemmas)

pub rules_for : (p : Place) (list : List Attribute) (x : LoopStart) (y : Option ExprTree) (z : Option Change) (body : StatTree) → stat_obeys (stated p (s.For list x y z body)) ≡ (obeys target.Loop list && stat_obeys body)
rules_for p list x y z body = search (rules, the_lemmas)

pub rules_while : (p : Place) (list : List Attribute) (x : ExprTree) (body : StatTree) → stat_obeys (stated p (s.While list x body)) ≡ (obeys target.Loop list && stat_obeys body)
rules_while p list x body = search (rules, the_lemmas)

module _ (limits : Limits) where
  -- each statement has a node
  pub stat_positive : (x : StatTree) → StatFits limits zero x → ⊥
  stat_positive x f = let h = f.sizes.depth in let p = has_node x in omega (arith, h, p)
    where
      has_node : (x : StatTree) → 1 ≤ in_stat nodes x
      has_node x = search (rules, the_lemmas, arith)

  module _ (d : ℕ) where
    -- statements of a block
    pub record StatsFit (list : List StatTree) : Type 0 where
      pub sizes : Keeps limits d (λ count. greatest (map (in_stat count) list))
      pub rules_ : (limits.free || all_true (map stat_obeys list)) ≡ true

    pub stats_front : (xs : List StatTree) (x : StatTree) → StatsFit (xs ++ x ∷ []) → StatsFit xs
    stats_front xs x f = record { sizes = front_fits limits in_stat d xs x f.sizes; rules_ = or_map limits.free (all_true (map stat_obeys (xs ++ x ∷ []))) (all_true (map stat_obeys xs)) (true_front xs x) f.rules_ }

    pub stats_last : (xs : List StatTree) (x : StatTree) → StatsFit (xs ++ x ∷ []) → StatFits limits d x
    stats_last xs x f = record { sizes = last_fits limits in_stat d xs x f.sizes; rules = or_map limits.free (all_true (map stat_obeys (xs ++ x ∷ []))) (stat_obeys x) (true_last xs x) f.rules_ }

    pub stats_fit : {ts : List Lexed} {xs ys : List StatTree} {p : Place} {from to : ℕ} → StatsAt ts xs ys p from to → StatsFit ys → StatsFit xs
    stats_fit (t.end c) f = f
    stats_fit (t.more {x = x} {list = xs} v r) f = stats_front xs x (stats_fit r f)

    pub block_fits : (p : Place) (list : List StatTree) → BlockFits limits (suc d) (record { place = p; statements = list }) → StatsFit list
    block_fits p list f = record {
      sizes = inside limits d (λ count. greatest (map (in_stat count) list)) (λ count. count.over (greatest (map (in_stat count) list))) (λ count. refl) f.sizes;
      rules_ = f.rules;
    }

    -- the attributes of a loop, what stands in its head, and its body
    pub record LoopFits (list : List Attribute) (head : Count → ℕ) (body : StatTree) : Type 0 where
      pub attributes : Keeps limits d (λ count. in_attributes count list)
      pub obeyed : (limits.free || obeys target.Loop list) ≡ true
      pub head_fits : Keeps limits d head
      pub body_fits : StatFits limits d body

    loop_fits : (list : List Attribute) (head : Count → ℕ) (body : StatTree) → Keeps limits d (λ count. max (in_attributes count list) (max (head count) (in_stat count body))) → (limits.free || (obeys target.Loop list && stat_obeys body)) ≡ true →
        LoopFits list head body
    loop_fits list head body all o =
        let rest = less limits d (λ count. max (head count) (in_stat count body)) (λ count. max (in_attributes count list) (max (head count) (in_stat count body))) (λ count. max_right (in_attributes count list) (max (head count) (in_stat count body))) all in
        record {
          attributes = less limits d (λ count. in_attributes count list) (λ count. max (in_attributes count list) (max (head count) (in_stat count body))) (λ count. max_left (in_attributes count list) (max (head count) (in_stat count body))) all;
          obeyed = or_left limits.free (obeys target.Loop list) (stat_obeys body) o;
          head_fits = less limits d head (λ count. max (head count) (in_stat count body)) (λ count. max_left (head count) (in_stat count body)) rest;
          body_fits = record {
            sizes = less limits d (λ count. in_stat count body) (λ count. max (head count) (in_stat count body)) (λ count. max_right (head count) (in_stat count body)) rest;
            rules = or_right limits.free (obeys target.Loop list) (stat_obeys body) o;
          };
        }

    module _ (p : Place) where
      pub in_block_fits : (list : List StatTree) → StatFits limits (suc d) (stated p (s.Block list)) → StatsFit list
      in_block_fits list f = record {
        sizes = inside limits d (λ count. greatest (map (in_stat count) list)) (λ count. in_stat count (stated p (s.Block list))) (λ count. of_block count p list) f.sizes;
        rules_ = ap (λ b. limits.free || b) (sym (rules_block p list)) ∙ f.rules;
      }

      pub local_fits : (x : Local) → StatFits limits (suc d) (stated p (s.Local x)) → Keeps limits d (λ count. in_local count x)
      local_fits x f = inside limits d (λ count. in_local count x) (λ count. in_stat count (stated p (s.Local x))) (λ count. of_local count p x) f.sizes

      pub change_fits : (x : Change) → StatFits limits (suc d) (stated p (s.Change x)) → Keeps limits d (λ count. in_change count x)
      change_fits x f = inside limits d (λ count. in_change count x) (λ count. in_stat count (stated p (s.Change x))) (λ count. of_change count p x) f.sizes

      pub return_fits : (x : Option ExprTree) → StatFits limits (suc d) (stated p (s.Return x)) → Keeps limits d (λ count. optional count.of_value x)
      return_fits x f = inside limits d (λ count. optional count.of_value x) (λ count. in_stat count (stated p (s.Return x))) (λ count. of_return count p x) f.sizes

      pub if_fits : (x : ExprTree) (y : StatTree) → StatFits limits (suc d) (stated p (s.If x y)) → Fits limits d x × StatFits limits d y
      if_fits x y f =
          let all = inside limits d (λ count. max (count.of_value x) (in_stat count y)) (λ count. in_stat count (stated p (s.If x y))) (λ count. of_if count p x y) f.sizes in (
            value_fits limits d x (less limits d (λ count. count.of_value x) (λ count. max (count.of_value x) (in_stat count y)) (λ count. max_left (count.of_value x) (in_stat count y)) all),
            record { sizes = less limits d (λ count. in_stat count y) (λ count. max (count.of_value x) (in_stat count y)) (λ count. max_right (count.of_value x) (in_stat count y)) all; rules = ap (λ b. limits.free || b) (sym (rules_if p x y)) ∙ f.rules },
          )

      pub else_fits : (x : ExprTree) (y z : StatTree) → StatFits limits (suc d) (stated p (s.IfElse x y z)) → Fits limits d x × StatFits limits d y × StatFits limits d z
      else_fits x y z f =
          let all = inside limits d (λ count. max (count.of_value x) (max (in_stat count y) (in_stat count z))) (λ count. in_stat count (stated p (s.IfElse x y z))) (λ count. of_else count p x y z) f.sizes in
          let both = less limits d (λ count. max (in_stat count y) (in_stat count z)) (λ count. max (count.of_value x) (max (in_stat count y) (in_stat count z))) (λ count. max_right (count.of_value x) (max (in_stat count y) (in_stat count z))) all in
          let obeyed = ap (λ b. limits.free || b) (sym (rules_else p x y z)) ∙ f.rules in (
            value_fits limits d x (less limits d (λ count. count.of_value x) (λ count. max (count.of_value x) (max (in_stat count y) (in_stat count z))) (λ count. max_left (count.of_value x) (max (in_stat count y) (in_stat count z))) all),
            record { sizes = less limits d (λ count. in_stat count y) (λ count. max (in_stat count y) (in_stat count z)) (λ count. max_left (in_stat count y) (in_stat count z)) both; rules = or_left limits.free (stat_obeys y) (stat_obeys z) obeyed },
            record { sizes = less limits d (λ count. in_stat count z) (λ count. max (in_stat count y) (in_stat count z)) (λ count. max_right (in_stat count y) (in_stat count z)) both; rules = or_right limits.free (stat_obeys y) (stat_obeys z) obeyed },
          )

      pub for_fits : (list : List Attribute) (x : LoopStart) (y : Option ExprTree) (z : Option Change) (body : StatTree) → StatFits limits (suc d) (stated p (s.For list x y z body)) → LoopFits list (λ count. in_head count x y z) body
      for_fits list x y z body f = loop_fits list (λ count. in_head count x y z) body
          (inside limits d (λ count. max (in_attributes count list) (max (in_head count x y z) (in_stat count body))) (λ count. in_stat count (stated p (s.For list x y z body))) (λ count. of_for count p list x y z body) f.sizes)
          (ap (λ b. limits.free || b) (sym (rules_for p list x y z body)) ∙ f.rules)

      pub while_fits : (list : List Attribute) (x : ExprTree) (body : StatTree) → StatFits limits (suc d) (stated p (s.While list x body)) → LoopFits list (λ count. count.of_value x) body
      while_fits list x body f = loop_fits list (λ count. count.of_value x) body
          (inside limits d (λ count. max (in_attributes count list) (max (count.of_value x) (in_stat count body))) (λ count. in_stat count (stated p (s.While list x body))) (λ count. of_while count p list x body) f.sizes)
          (ap (λ b. limits.free || b) (sym (rules_while p list x body)) ∙ f.rules)
