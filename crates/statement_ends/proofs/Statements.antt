-- Statements and blocks: what was looked at of one, but for the last token, goes on to be one.
use Rattle.std.proofs.Common.{Bool, true, false, ◌≡◌, ℕ, zero, suc, ◌+◌, ◌<◌, List, [], ◌∷◌, ◌++◌, not, Option, Some, None, refl, ap, arith}
use Rattle.slang_names.specs.declared.places.Place.{Place}
use Rattle.slang_names.specs.declared.codes.ModuleCode.TheVariants as code
use Rattle.slang_tree.specs.declared.expressions.ExprTree.{ExprTree}
use Rattle.slang_tree.specs.declared.statements.Attribute.{Attribute}
use Rattle.slang_tree.specs.declared.statements.StatTree.{StatTree}
use Rattle.slang_tree.specs.declared.statements.StatNode.TheVariants as s
use Rattle.slang_tree.specs.declared.statements.Block.{Block}
use Rattle.slang_tokens.specs.declared.tokens.Kind.TheVariants as k
use Rattle.slang_tokens.specs.declared.tokens.Mark.TheVariants as m
use Rattle.slang_tokens.specs.declared.tokens.Word.TheVariants as w
use Rattle.slang_reading.specs.Lexed.{Lexed}
use Rattle.slang_reading.specs.Reading.{Parser, Choice, Leave, Take, ◌>>=◌, pure, place_of, next, turns}
use Rattle.slang_reading.specs.Kinds.{sees, sees_word, span}
use Rattle.slang_reading.proofs.Tame.{Tame, tame_pure, tame_past, tame_bind, Each, each_fits, tame_next, tame_turns}
use Rattle.slang_reading.proofs.Viable.{Finishes, Viable, viable_pure, viable_past, finishes_pure, EachPair, finishes_next_take, finishes_next_end, viable_next, pair_fits, Ready, ready_bind, ready_last, ready_turns}
use Rattle.slang_grammar.specs.Descent.{Limits, expect}
use Rattle.slang_grammar.proofs.TypesReady.{token, mark, int_word, Any, ready_expect}
use Rattle.statement_grammar.specs.declared.tables.StatementUse.{StatementUse}
use Rattle.statement_grammar.specs.declared.tables.StatementUse.TheVariants as u
use Rattle.statement_grammar.specs.Tables.{statement_use}
use Rattle.statement_grammar.specs.Attributes.{begin_of}
use Rattle.statement_grammar.specs.AttributesDescent.{Given, attributes, loops}
use Rattle.statement_grammar.specs.Statements.{stated}
use Rattle.statement_grammar.specs.StatementsDescent.{maybe, condition, simple, Head, head, simple_stated, stat_more, in_block, stats, block_rest, simple_stat, if_else, else_by, if_rest, for_rest, while_rest, loop_as, loop_at, loop_rest, return_rest, break_rest, continue_rest, node, stat_as, stat_at, stat, body_rest, body_by, body, no_statements, statements, blocks}
use Rattle.statement_ends.proofs.Roomy.{roomy, word, not_word}
use Rattle.statement_ends.proofs.Attributes.{Unmarked, ready_attributes}
use Rattle.statement_ends.proofs.Locals.{Settled}
use Rattle.statement_ends.proofs.Changes.{ready_simple}
use Rattle.statement_ends.proofs.Parts.{Closed, condition_path, head_path, ready_maybe, ready_condition, ready_head}

-- no word with which a statement goes on
abbrev pub Ended : Option Lexed → Type 0
Ended x = sees_word w.Else x ≡ false

-- the brace that closes a block
abbrev Braced : Option Lexed → Type 0
Braced x = sees m.CloseBrace x ≡ true

-- the shortest statement
abbrev empty_path : List Lexed
empty_path = mark m.Semicolon ∷ []

tame_mark : {A : Type 0} (f : Place → A) → Tame (expect m.Semicolon >>= (λ end. pure (f end)))
tame_mark f = tame_bind _ (λ end. tame_pure _) (expect m.Semicolon) (ready_expect Any m.Semicolon).viable.tame

-- ---- what is tame inside is tame

module _ (limits : Limits) (room : Bool) (d : ℕ) (inner : Parser StatTree) (hi : Tame inner) where
  abbrev enough : ℕ
  enough = (roomy limits).turns + 3 + d + 1

  tame_stats : Tame (stats limits room d inner)
  unfolding stats stat_more
  tame_stats = tame_bind _ (λ list. tame_bind _ (λ end. tame_pure _) (expect m.CloseBrace) (ready_expect Any m.CloseBrace).viable.tame) (turns (in_block limits room d inner) (stat_more limits room d inner) limits.turns [])
      (tame_turns (in_block limits room d inner) (stat_more limits room d inner) (λ list. tame_bind _ (λ x. tame_pure _) inner hi) limits.turns [])

  tame_condition : Tame (condition limits d)
  tame_condition = (ready_condition limits d enough (omega arith) Any).viable.tame

  tame_if : (begin : Place) → Tame (if_rest limits room d inner begin)
  unfolding if_rest if_else
  tame_if begin = tame_bind _ (λ x. tame_bind _ (λ y. tame_next _ (λ t. by x y (sees_word w.Else t))) inner hi) (condition limits d) tame_condition
    where
      by : (x : ExprTree) (y : StatTree) (b : Bool) → Each Tame (else_by limits room d inner begin x y b)
      by x y true = tame_bind _ (λ z. tame_pure _) inner hi
      by x y false = tame_pure _

  tame_for : (list : List Attribute) (begin : Place) → Tame (for_rest limits room d inner list begin)
  unfolding for_rest
  tame_for list begin = tame_bind _ (λ x. tame_bind _ (λ y. tame_pure _) inner hi) (head limits d) (ready_head limits d enough (omega arith) Any).viable.tame

  tame_while : (list : List Attribute) (begin : Place) → Tame (while_rest limits room d inner list begin)
  unfolding while_rest
  tame_while list begin = tame_bind _ (λ x. tame_bind _ (λ y. tame_pure _) inner hi) (condition limits d) tame_condition

  tame_loop : Tame (loop_rest limits room d inner)
  unfolding loop_rest
  tame_loop = tame_bind _ (λ a. tame_next (loop_at limits room d inner a) (go a)) (attributes limits loops) (ready_attributes limits loops).viable.tame
    where
      by : (a : Given) (t : Lexed) (v : StatementUse) → Each Tame (loop_as limits room d inner a t v)
      by a t u.For = tame_for a.0 t.place
      by a t u.While = tame_while a.0 t.place
      by a t u.Block = tt
      by a t u.Empty = tt
      by a t u.Attributes = tt
      by a t u.Simple = tt
      by a t u.If = tt
      by a t u.Return = tt
      by a t u.Break = tt
      by a t u.Continue = tt
      by a t u.Nothing = tt

      go : (a : Given) (x : Option Lexed) → Each Tame (loop_at limits room d inner a x)
      go a (Some t) = by a t (statement_use t.kind)
      go a None = tt

  tame_simple : Tame (simple_stat limits room d inner)
  unfolding simple_stat
  tame_simple = tame_bind _ (λ x. tame_mark _) (simple limits d) (ready_simple limits d enough (omega arith)).viable.tame

  tame_return : (begin : Place) → Tame (return_rest limits room d inner begin)
  unfolding return_rest
  tame_return begin = tame_bind _ (λ x. tame_mark _) (maybe limits d) (ready_maybe limits d enough (omega arith)).viable.tame

  tame_break : (begin : Place) → Tame (break_rest limits room d inner begin)
  unfolding break_rest
  tame_break begin = tame_mark _

  tame_continue : (begin : Place) → Tame (continue_rest limits room d inner begin)
  unfolding continue_rest
  tame_continue begin = tame_mark _

  tame_block : (begin : Place) → Tame (block_rest limits room d inner begin)
  unfolding block_rest
  tame_block begin = tame_bind _ (λ x. tame_pure _) (stats limits room d inner) tame_stats

  each_node : (t : Lexed) (c : Choice StatTree) → Each Tame c → Each Tame (node limits room d inner t c)
  each_node t c r = each_fits Tame room code.TooNested (Some t) c r

  tame_stat : Tame (stat limits room d inner)
  unfolding stat
  tame_stat = tame_next (stat_at limits room d inner) go
    where
      by : (t : Lexed) (v : StatementUse) → Each Tame (stat_as limits room d inner t v)
      by t u.Block = each_node t (Take (block_rest limits room d inner t.place)) (tame_block t.place)
      by t u.Empty = each_node t (Take (pure (stated t.place s.Empty))) (tame_pure _)
      by t u.Attributes = each_node t (Leave (loop_rest limits room d inner)) tame_loop
      by t u.Simple = each_node t (Leave (simple_stat limits room d inner)) tame_simple
      by t u.If = each_node t (Take (if_rest limits room d inner t.place)) (tame_if t.place)
      by t u.For = each_node t (Take (for_rest limits room d inner [] t.place)) (tame_for [] t.place)
      by t u.While = each_node t (Take (while_rest limits room d inner [] t.place)) (tame_while [] t.place)
      by t u.Return = each_node t (Take (return_rest limits room d inner t.place)) (tame_return t.place)
      by t u.Break = each_node t (Take (break_rest limits room d inner t.place)) (tame_break t.place)
      by t u.Continue = each_node t (Take (continue_rest limits room d inner t.place)) (tame_continue t.place)
      by t u.Nothing = tt

      go : (x : Option Lexed) → Each Tame (stat_at limits room d inner x)
      go (Some t) = by t (statement_use t.kind)
      go None = tt

tame_statements : (limits : Limits) (d : ℕ) → Tame (statements limits d)
unfolding statements
tame_statements limits zero = tame_stat limits false zero no_statements (tame_past _ _)
tame_statements limits (suc d) = tame_stat limits true d (statements limits d) (tame_statements limits d)

-- ---- the two beside each other

module _ (limits : Limits) (room : Bool) (d e : ℕ) (h : (roomy limits).turns + 3 + d < e) (p q : Parser StatTree) (hp : Ready Ended empty_path p q) where
  abbrev large : Limits
  large = roomy limits

  viable_stat_more : (list : List StatTree) → Viable Ended (stat_more limits room d p list) (stat_more large true e q list)
  unfolding stat_more
  viable_stat_more list = (ready_last Ended empty_path p q (λ x. list ++ x ∷ []) hp).viable

  ready_stats : (F : Option Lexed → Type 0) → Ready F (mark m.CloseBrace ∷ []) (stats limits room d p) (stats large true e q)
  unfolding stats
  ready_stats F = ready_bind F Braced [] (mark m.CloseBrace ∷ []) (turns (in_block limits room d p) (stat_more limits room d p) limits.turns []) (turns (in_block large true e q) (stat_more large true e q) large.turns []) _ _ (λ rest f. refl)
      (ready_turns Braced Ended (in_block limits room d p) (stat_more limits room d p) (stat_more large true e q) limits.turns large.turns [] (omega arith) (λ x f. not_word m.CloseBrace w.Else x f) (λ x f. ap not f) viable_stat_more)
      (λ list. ready_last F (mark m.CloseBrace ∷ []) (expect m.CloseBrace) (expect m.CloseBrace) (λ end. (list, end)) (ready_expect F m.CloseBrace))

  viable_block : (begin : Place) → Viable Ended (block_rest limits room d p begin) (block_rest large true e q begin)
  unfolding block_rest
  viable_block begin = (ready_last Ended (mark m.CloseBrace ∷ []) (stats limits room d p) (stats large true e q) (λ x. stated (span begin x.1) (s.Block x.0)) (ready_stats Ended)).viable

  ready_mark : {A : Type 0} (f : Place → A) → Ready Ended empty_path (expect m.Semicolon >>= (λ end. pure (f end))) (expect m.Semicolon >>= (λ end. pure (f end)))
  ready_mark f = ready_last Ended empty_path (expect m.Semicolon) (expect m.Semicolon) f (ready_expect Ended m.Semicolon)

  viable_simple : Viable Ended (simple_stat limits room d p) (simple_stat large true e q)
  unfolding simple_stat
  viable_simple = (ready_bind Ended Settled (word w.Const ∷ int_word ∷ token k.Name ∷ []) empty_path (simple limits d) (simple large e) _ _ (λ rest f. (refl, refl, refl)) (ready_simple limits d e h) (λ x. ready_mark (simple_stated limits d x))).viable

  viable_if : (begin : Place) → Viable Ended (if_rest limits room d p begin) (if_rest large true e q begin)
  unfolding if_rest if_else
  viable_if begin = (ready_bind Ended Any condition_path empty_path (condition limits d) (condition large e) _ _ (λ rest f. tt) (ready_condition limits d e h Any)
      (λ x. ready_bind Ended Ended empty_path [] p q _ _ (λ rest f. f) hp (λ y. ready_else x y))).viable
    where
      finishes : (x : ExprTree) (y : StatTree) → Finishes Ended [] (next (λ t. else_by large true e q begin x y (sees_word w.Else t)))
      finishes x y = finishes_next_end Ended (λ t. else_by large true e q begin x y (sees_word w.Else t)) (λ t. pure (stated (span begin y.place) (s.If x y))) (λ t f. ap (else_by large true e q begin x y) f) (λ t. finishes_pure Ended _)

      by : (x : ExprTree) (y : StatTree) (b : Bool) → EachPair (Viable Ended) (else_by limits room d p begin x y b) (else_by large true e q begin x y b)
      by x y true = (ready_last Ended empty_path p q (λ z. stated (span begin z.place) (s.IfElse x y z)) hp).viable
      by x y false = viable_pure Ended _

      ready_else : (x : ExprTree) (y : StatTree) → Ready Ended [] (next (λ t. else_by limits room d p begin x y (sees_word w.Else t))) (next (λ t. else_by large true e q begin x y (sees_word w.Else t)))
      ready_else x y = record { viable = viable_next Ended (λ t. else_by large true e q begin x y (sees_word w.Else t)) (λ t. else_by limits room d p begin x y (sees_word w.Else t)) [] (finishes x y) (λ t. by x y (sees_word w.Else t)); finishes = finishes x y }

  ready_for : (list : List Attribute) (begin : Place) → Ready Ended (head_path ++ empty_path) (for_rest limits room d p list begin) (for_rest large true e q list begin)
  unfolding for_rest
  ready_for list begin = ready_bind Ended Any head_path empty_path (head limits d) (head large e) _ _ (λ rest f. tt) (ready_head limits d e h Any)
      (λ (x : Head limits d). ready_last Ended empty_path p q (λ y. stated (span (begin_of list begin) y.place) (s.For list x.0 x.1 x.2 y)) hp)

  ready_while : (list : List Attribute) (begin : Place) → Ready Ended (condition_path ++ empty_path) (while_rest limits room d p list begin) (while_rest large true e q list begin)
  unfolding while_rest
  ready_while list begin = ready_bind Ended Any condition_path empty_path (condition limits d) (condition large e) _ _ (λ rest f. tt) (ready_condition limits d e h Any)
      (λ x. ready_last Ended empty_path p q (λ y. stated (span (begin_of list begin) y.place) (s.While list x y)) hp)

  viable_loop : Viable Ended (loop_rest limits room d p) (loop_rest large true e q)
  unfolding loop_rest
  viable_loop = (ready_bind Ended Unmarked [] (word w.While ∷ (condition_path ++ empty_path)) (attributes limits loops) (attributes large loops) _ _ (λ rest f. refl) (ready_attributes limits loops) rest).viable
    where
      finishes : (a : Given) → Finishes Ended (word w.While ∷ (condition_path ++ empty_path)) (next (loop_at large true e q a))
      finishes a = finishes_next_take Ended (loop_at large true e q a) (word w.While) (condition_path ++ empty_path) _ refl (ready_while a.0 (word w.While).place).finishes

      by : (a : Given) (t : Lexed) (v : StatementUse) → EachPair (Viable Ended) (loop_as limits room d p a t v) (loop_as large true e q a t v)
      by a t u.For = (ready_for a.0 t.place).viable
      by a t u.While = (ready_while a.0 t.place).viable
      by a t u.Block = tt
      by a t u.Empty = tt
      by a t u.Attributes = tt
      by a t u.Simple = tt
      by a t u.If = tt
      by a t u.Return = tt
      by a t u.Break = tt
      by a t u.Continue = tt
      by a t u.Nothing = tt

      go : (a : Given) (x : Option Lexed) → EachPair (Viable Ended) (loop_at limits room d p a x) (loop_at large true e q a x)
      go a (Some t) = by a t (statement_use t.kind)
      go a None = tt

      rest : (a : Given) → Ready Ended (word w.While ∷ (condition_path ++ empty_path)) (next (loop_at limits room d p a)) (next (loop_at large true e q a))
      rest a = record { viable = viable_next Ended (loop_at large true e q a) (loop_at limits room d p a) (word w.While ∷ (condition_path ++ empty_path)) (finishes a) (go a); finishes = finishes a }

  viable_return : (begin : Place) → Viable Ended (return_rest limits room d p begin) (return_rest large true e q begin)
  unfolding return_rest
  viable_return begin = (ready_bind Ended Closed [] empty_path (maybe limits d) (maybe large e) _ _ (λ rest f. refl) (ready_maybe limits d e h) (λ x. ready_mark (λ end. stated (span begin end) (s.Return x)))).viable

  viable_break : (begin : Place) → Viable Ended (break_rest limits room d p begin) (break_rest large true e q begin)
  unfolding break_rest
  viable_break begin = (ready_mark (λ end. stated (span begin end) s.Break)).viable

  viable_continue : (begin : Place) → Viable Ended (continue_rest limits room d p begin) (continue_rest large true e q begin)
  unfolding continue_rest
  viable_continue begin = (ready_mark (λ end. stated (span begin end) s.Continue)).viable

  pair_node : (t : Lexed) (c f : Choice StatTree) → EachPair (Viable Ended) c f → EachPair (Viable Ended) (node limits room d p t c) (node large true e q t f)
  pair_node t c f v = pair_fits Ended room true code.TooNested (Some t) c f (λ r. refl) v

  pair_stat : (t : Lexed) (v : StatementUse) → EachPair (Viable Ended) (stat_as limits room d p t v) (stat_as large true e q t v)
  pair_stat t u.Block = pair_node t (Take (block_rest limits room d p t.place)) (Take (block_rest large true e q t.place)) (viable_block t.place)
  pair_stat t u.Empty = pair_node t (Take (pure (stated t.place s.Empty))) (Take (pure (stated t.place s.Empty))) (viable_pure Ended _)
  pair_stat t u.Attributes = pair_node t (Leave (loop_rest limits room d p)) (Leave (loop_rest large true e q)) viable_loop
  pair_stat t u.Simple = pair_node t (Leave (simple_stat limits room d p)) (Leave (simple_stat large true e q)) viable_simple
  pair_stat t u.If = pair_node t (Take (if_rest limits room d p t.place)) (Take (if_rest large true e q t.place)) (viable_if t.place)
  pair_stat t u.For = pair_node t (Take (for_rest limits room d p [] t.place)) (Take (for_rest large true e q [] t.place)) (ready_for [] t.place).viable
  pair_stat t u.While = pair_node t (Take (while_rest limits room d p [] t.place)) (Take (while_rest large true e q [] t.place)) (ready_while [] t.place).viable
  pair_stat t u.Return = pair_node t (Take (return_rest limits room d p t.place)) (Take (return_rest large true e q t.place)) (viable_return t.place)
  pair_stat t u.Break = pair_node t (Take (break_rest limits room d p t.place)) (Take (break_rest large true e q t.place)) (viable_break t.place)
  pair_stat t u.Continue = pair_node t (Take (continue_rest limits room d p t.place)) (Take (continue_rest large true e q t.place)) (viable_continue t.place)
  pair_stat t u.Nothing = tt

  ready_stat : Ready Ended empty_path (stat limits room d p) (stat large true e q)
  unfolding stat
  ready_stat = record { viable = viable_next Ended (stat_at large true e q) (stat_at limits room d p) empty_path finishes go; finishes = finishes }
    where
      finishes : Finishes Ended empty_path (next (stat_at large true e q))
      finishes = finishes_next_take Ended (stat_at large true e q) (mark m.Semicolon) [] (pure _) refl (finishes_pure Ended _)

      go : (x : Option Lexed) → EachPair (Viable Ended) (stat_at limits room d p x) (stat_at large true e q x)
      go (Some t) = pair_stat t (statement_use t.kind)
      go None = tt

  ready_body : (F : Option Lexed → Type 0) → Ready F (mark m.OpenBrace ∷ mark m.CloseBrace ∷ []) (body limits room d p) (body large true e q)
  unfolding body body_rest
  ready_body F = record { viable = viable_next F (λ x. body_by large true e q x (sees m.OpenBrace x)) (λ x. body_by limits room d p x (sees m.OpenBrace x)) (mark m.OpenBrace ∷ mark m.CloseBrace ∷ []) finishes (λ x. by x (sees m.OpenBrace x)); finishes = finishes }
    where
      rest : (begin : Place) → Ready {A = Block} F (mark m.CloseBrace ∷ []) (stats limits room d p >>= (λ x. pure (record { place = span begin x.1; statements = x.0 }))) (stats large true e q >>= (λ x. pure (record { place = span begin x.1; statements = x.0 })))
      rest begin = ready_last F (mark m.CloseBrace ∷ []) (stats limits room d p) (stats large true e q) (λ x. record { place = span begin x.1; statements = x.0 }) (ready_stats F)

      finishes : Finishes F (mark m.OpenBrace ∷ mark m.CloseBrace ∷ []) (next (λ x. body_by large true e q x (sees m.OpenBrace x)))
      finishes = finishes_next_take F (λ x. body_by large true e q x (sees m.OpenBrace x)) (mark m.OpenBrace) (mark m.CloseBrace ∷ []) _ refl (rest (place_of (Some (mark m.OpenBrace)))).finishes

      by : (x : Option Lexed) (b : Bool) → EachPair (Viable F) (body_by limits room d p x b) (body_by large true e q x b)
      by x true = pair_fits F room true code.TooNested x (Take (body_rest limits room d p (place_of x))) (Take (body_rest large true e q (place_of x))) (λ r. refl) (rest (place_of x)).viable
      by x false = tt

finishes_statements : (limits : Limits) (e : ℕ) → 0 < e → Finishes Ended empty_path (statements (roomy limits) e)
unfolding statements stat
finishes_statements limits zero h = absurd (omega arith)
finishes_statements limits (suc e) h = finishes_next_take Ended (stat_at (roomy limits) true e (statements (roomy limits) e)) (mark m.Semicolon) [] (pure _) refl (finishes_pure Ended _)

-- Inside of a statement of so many nodes none is left, or fewer; inside of the larger one many are.
ready_no_statements : (limits : Limits) (e : ℕ) → 0 < e → Ready Ended empty_path no_statements (statements (roomy limits) e)
ready_no_statements limits e h = record { viable = viable_past Ended code.TooNested (place_of None) (statements (roomy limits) e) (tame_statements (roomy limits) e); finishes = finishes_statements limits e h }

pub ready_statements : (limits : Limits) (e d : ℕ) → (roomy limits).turns + 4 + d < e → Ready Ended empty_path (statements limits d) (statements (roomy limits) e)
unfolding statements
ready_statements limits zero d h = absurd (omega arith)
ready_statements limits (suc e) zero h = ready_stat limits false zero e (omega (arith, h)) no_statements (statements (roomy limits) e) (ready_no_statements limits e (omega (arith, h)))
ready_statements limits (suc e) (suc d) h = ready_stat limits true d e (omega (arith, h)) (statements limits d) (statements (roomy limits) e) (ready_statements limits e d (omega (arith, h)))

pub ready_blocks : (limits : Limits) (F : Option Lexed → Type 0) (e d : ℕ) → (roomy limits).turns + 5 + d < e → Ready F (mark m.OpenBrace ∷ mark m.CloseBrace ∷ []) (blocks limits d) (blocks (roomy limits) e)
unfolding blocks
ready_blocks limits F zero d h = absurd (omega arith)
ready_blocks limits F (suc e) zero h = ready_body limits false zero e (omega (arith, h)) no_statements (statements (roomy limits) e) (ready_no_statements limits e (omega (arith, h))) F
ready_blocks limits F (suc e) (suc d) h = ready_body limits true d e (omega (arith, h)) (statements limits d) (statements (roomy limits) e) (ready_statements limits e d (omega (arith, h))) F
