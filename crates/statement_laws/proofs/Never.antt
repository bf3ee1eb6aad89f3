-- What is looked at ahead answers nothing where a change is spelled.
use Rattle.std.proofs.Common.{Bool, true, false, ◌≡◌, ℕ, zero, suc, ◌+◌, ◌||◌, List, [], map, drop, Option, Some, None, refl, sym, ◌∙◌, ap, subst}
use Rattle.slang_names.specs.declared.places.Place.{Place}
use Rattle.slang_names.specs.declared.codes.ModuleCode.TheVariants as code
use Rattle.slang_tree.specs.declared.types.Identifier.{Identifier}
use Rattle.slang_tree.specs.declared.types.GenericArgument.{GenericArgument}
use Rattle.slang_tree.specs.declared.types.Term.{Term}
use Rattle.slang_tree.specs.declared.types.TypeNode.TheVariants as n
use Rattle.slang_tree.specs.declared.expressions.ExprTree.{ExprTree}
use Rattle.slang_tree.specs.declared.expressions.ExprNode.TheVariants as en
use Rattle.slang_tree.specs.declared.statements.Change.{Change}
use Rattle.slang_tokens.specs.declared.tokens.Kind.TheVariants as k
use Rattle.slang_tokens.specs.declared.tokens.Mark.{Mark}
use Rattle.slang_tokens.specs.declared.tokens.Mark.TheVariants as m
use Rattle.slang_tokens.specs.declared.tokens.Word.TheVariants as w
use Rattle.slang_reading.specs.Lexed.{Lexed}
use Rattle.slang_reading.specs.Reading.{Parser, Choice, Leave, Take, Refuse, Pass, ◌>>=◌, first, place_of, next, turn, turns}
use Rattle.slang_reading.specs.Kinds.{is_mark, sees, span}
use Rattle.slang_reading.proofs.Marks.{mark_is}
use Rattle.slang_reading.proofs.Exact.{Post, PostChoice, post_weaken, post_bind, post_next, reads_turns_end}
use Rattle.slang_grammar.specs.Standing.{Stands, NameStands, IsNot}
use Rattle.slang_grammar.specs.Types as ty
use Rattle.slang_grammar.specs.Types.{typed, TermAt, ArgumentsAt}
use Rattle.slang_grammar.specs.Heights.{greatest, argument_height}
use Rattle.slang_grammar.specs.Expressions as ex
use Rattle.slang_grammar.specs.Expressions.{valued, follows, NoArguments, NameAt, loosest, ExprAt, LevelAt, UnaryAt, PostfixAt, ChainAt, PrimaryAt}
use Rattle.slang_grammar.specs.Descent.{Limits, expect, name, bracketed}
use Rattle.slang_grammar.specs.TypesDescent.{Type_, Arguments, arguments, project, types}
use Rattle.slang_grammar.specs.ExpressionsDescent.{freed}
use Rattle.slang_grammar.proofs.Shared.{IsMarkAt, IsNameAt, IsTermAt, post_expect, post_name, post_bracketed, not_there, is_there}
use Rattle.slang_grammar.proofs.TypesRead.{use_builtin, less_there, reads_arguments}
use Rattle.expression_grammar.proofs.Quiet.{ends_here}
use Rattle.expression_grammar.proofs.Parts.{post_known}
use Rattle.expression_grammar.proofs.One.{one_expression}
use Rattle.statement_grammar.specs.Statements as t
use Rattle.statement_grammar.specs.Statements.{ChangeAt}
use Rattle.statement_grammar.specs.LocalsAhead.{Seen, name_ahead, length_ahead, array_ahead, rest_ahead, given_ahead, named_ahead_by, named_ahead, builtin_ahead_by, builtin_ahead, word_ahead, local_ahead_at, local_ahead}
use Rattle.statement_grammar.proofs.Begins.{Closes}
use Rattle.statement_laws.proofs.Behind.{Behind, closes_behind, step_behind, assign_behind}
use Rattle.statement_laws.proofs.Ahead.{all_of, reads_project}

-- ---- an expression of one token

lift : {ts : List Lexed} {x : ExprTree} {from to : ℕ} (l : ℕ) → UnaryAt ts x from to → LevelAt ts l x from to
lift zero u = ex.unary u
lift (suc l) u = ex.binary (lift l u) ex.operand

-- a number or a name before `]` is one
term_expression : {ts : List Lexed} {x : Term} {at : ℕ} (p : Place) → TermAt ts x at → Stands ts (at + 1) (k.Mark m.CloseBracket) p → (y : ExprTree) × ExprAt ts y at (at + 1)
term_expression p (ty.number_term {p = q} {v = v} s) c = (valued q (en.Number v), ex.plain (lift loosest (ex.simple (ex.postfix (ex.number s) ex.whole))))
term_expression {ts = ts} {at = at} p (ty.name_term {id = id} s) c =
    let none : NoArguments ts (at + 1) = record { none = λ args end to r f. let z = sym (less_there r) ∙ (not_there ts m.Less (at + 1) (k.Mark m.CloseBracket) p c refl).is in cc } in
    (valued (span id.place id.place) (en.Name id []), ex.plain (lift loosest (ex.simple (ex.postfix (ex.name (ex.alone s none)) ex.whole))))

-- so an expression that ends before `]` and begins with one ends there
term_ends : {ts : List Lexed} {x : Term} {i : ExprTree} {p q : Place} {from at : ℕ} → TermAt ts x from → Stands ts (from + 1) (k.Mark m.CloseBracket) p → ExprAt ts i from at → Stands ts at (k.Mark m.CloseBracket) q → at ≡ from + 1
term_ends {ts = ts} {i = i} {p = p} {q = q} {from = from} {at = at} v c u d =
    let one = term_expression p v c in
    (one_expression ts from at (from + 1) i one.0 u one.1 (ends_here ts at (k.Mark m.CloseBracket) q d refl) (ends_here ts (from + 1) (k.Mark m.CloseBracket) p c refl)).1

-- ---- what stands behind a primary of a change

name_no_mark : {ts : List Lexed} {id : Identifier} {mark : Mark} {p : Place} {at : ℕ} → NameStands ts at id → Stands ts at (k.Mark mark) p → ⊥
name_no_mark {ts = ts} {mark = mark} {p = p} {at = at} i s = let z = sym (is_there ts mark at p s) ∙ ap (sees mark) i.is in cc

chain_no_name : {ts : List Lexed} {x y : ExprTree} {id : Identifier} {from to : ℕ} → ChainAt ts x y from to → Behind ts to → NameStands ts from id → ⊥
chain_no_name ex.whole b i = name_no_mark i b.is
chain_no_name (ex.member s r c) b i = name_no_mark i s
chain_no_name (ex.index s v r c) b i = name_no_mark i s
chain_no_name (ex.call s v c) b i = name_no_mark i s

chain_less : {ts : List Lexed} {x y : ExprTree} {from to : ℕ} → ChainAt ts x y from to → Behind ts to → IsNot ts m.Less from
chain_less ex.whole b = b.less
chain_less {ts = ts} {from = from} (ex.member {p = p} s r c) b = not_there ts m.Less from (k.Mark m.Dot) p s refl
chain_less {ts = ts} {from = from} (ex.index {p = p} s v r c) b = not_there ts m.Less from (k.Mark m.OpenBracket) p s refl
chain_less {ts = ts} {from = from} (ex.call {p = p} s v c) b = not_there ts m.Less from (k.Mark m.OpenParen) p s refl

-- what follows generic arguments is no bracket
follows_bracket : (x : Option Lexed) → follows x ≡ true → sees m.OpenBracket x ≡ false
follows_bracket None e = refl
follows_bracket (Some tok) e = by (sees m.OpenBracket (Some tok)) refl
  where
    by : (c : Bool) → sees m.OpenBracket (Some tok) ≡ c → c ≡ false
    by true q = let d = mark_is m.OpenBracket tok.kind q in let z = sym e ∙ ap (λ kind. is_mark m.OpenParen kind || is_mark m.Dot kind) d in cc
    by false q = refl

module _ (ts : List Lexed) (limits : Limits) where
  -- nothing is answered
  abbrev No : {A : Type 0} → A → ℕ → Type 0
  No a to = ⊥

  -- nothing is answered behind what projects
  abbrev Dead : ℕ → Type 0
  Dead at = (seen : ℕ) → Post No (next (λ t. array_ahead limits (sees m.OpenBracket t)) ts at seen)

  -- the choice at the token that is there
  post_there : {A : Type 0} (Q : A → ℕ → Type 0) (f : Option Lexed → Choice A) (at seen : ℕ) (x : Option Lexed) (c : Choice A) → first (drop at ts) ≡ x → f x ≡ c → PostChoice ts Q at x c → Post Q (next f ts at seen)
  post_there Q f at seen x c e q h = post_next ts Q f at seen (λ y d. subst (λ z. PostChoice ts Q at z (f z)) (sym e ∙ d) (subst (PostChoice ts Q at x) (sym q) h))

  no_name_ahead : {at : ℕ} → ((id : Identifier) → NameStands ts at id → ⊥) → (seen : ℕ) → Post No (name_ahead limits ts at seen)
  unfolding name_ahead
  no_name_ahead {at = at} n seen = post_bind ts (IsNameAt ts at) No (name (freed limits)) _ at seen (post_name ts (freed limits) at seen) (λ id mid s1 h. absurd (n id h.0))

  -- a mark that is no bracket
  dead_mark : {mark : Mark} {p : Place} {at : ℕ} → Stands ts at (k.Mark mark) p → is_mark m.OpenBracket (k.Mark mark) ≡ false → Dead at
  dead_mark {mark = mark} {p = p} {at = at} s e seen = post_there No (λ t. array_ahead limits (sees m.OpenBracket t)) at seen (first (drop at ts)) (Leave (name_ahead limits)) refl
      (ap (array_ahead limits) (not_there ts m.OpenBracket at (k.Mark mark) p s e).is) (λ s1. no_name_ahead (λ id i. name_no_mark i s) s1)

  -- a bracket with an index behind which no name stands
  dead_index : {i : ExprTree} {p q : Place} {from at : ℕ} → Stands ts from (k.Mark m.OpenBracket) p → ExprAt ts i (from + 1) at → Stands ts at (k.Mark m.CloseBracket) q →
      ((id : Identifier) → NameStands ts (at + 1) id → ⊥) → Dead from
  unfolding length_ahead
  dead_index {p = p} {from = from} {at = at} s v r n seen =
      let At : Seen → ℕ → Type 0 = No in
      post_there At (λ t. array_ahead limits (sees m.OpenBracket t)) from seen (Some (record { kind = k.Mark m.OpenBracket; place = p; bytes = s.bytes })) (Take (length_ahead limits)) s.is refl
      (λ s1. post_bind ts (IsTermAt ts (from + 1)) At (bracketed (freed limits)) _ (from + 1) s1 (post_bracketed ts (freed limits) (from + 1) s1)
      (λ x mid s2 t. post_bind ts (IsMarkAt ts m.CloseBracket mid) At (expect m.CloseBracket) _ mid s2 (post_expect ts m.CloseBracket mid s2)
      (λ c last s3 u. no_name_ahead (λ id i.
      let z = subst (λ j. Stands ts j (k.Mark m.CloseBracket) c) t.1 u.0 in
      let e = term_ends t.0 z v r in
      n id (subst (λ j. NameStands ts j id) (u.1 ∙ ap (λ j. j + 1) (t.1 ∙ sym e)) i)) s3)))

  -- ---- turns of what projects

  abbrev projects : ℕ → Type_ → Parser Type_
  projects count v = turns (sees m.Dot) (project (freed limits) limits.turns) count v

  abbrev IsDead : Type_ → ℕ → Type 0
  IsDead v at = Dead at

  turns_here : {at : ℕ} → IsNot ts m.Dot at → Dead at → (count : ℕ) (v : Type_) (seen : ℕ) → Post IsDead (projects count v ts at seen)
  turns_here {at = at} n dead count v seen = post_weaken (λ b mid. (b ≡ v) × (mid ≡ at)) IsDead (λ b mid q. subst Dead (sym q.1) dead) (projects count v ts at seen)
      (post_known (projects count v) ts at seen v at (reads_turns_end (Unit {0}) ts (sees m.Dot) (project (freed limits) limits.turns) count v at seen n.is))

  turns_on : {id : Identifier} {p : Place} {from : ℕ} → Stands ts from (k.Mark m.Dot) p → NameStands ts (from + 1) id → ((count : ℕ) (v : Type_) (seen : ℕ) → Post IsDead (projects count v ts (from + 1 + 1) seen)) →
      (count : ℕ) (v : Type_) (seen : ℕ) → Post IsDead (projects count v ts from seen)
  unfolding turns
  turns_on {p = p} {from = from} s i rest zero v seen =
      post_there IsDead (λ x. turn (sees m.Dot x) (Pass code.TooLong (place_of x)) v) from seen (Some (record { kind = k.Mark m.Dot; place = p; bytes = s.bytes })) (Pass code.TooLong p) s.is refl tt
  turns_on {id = id} {p = p} {from = from} s i rest (suc count) v seen =
      let more = project (freed limits) limits.turns in
      let z : Type_ = (typed (span v.0.place id.place) (n.Projection v.0 id), v.1 + 1) in
      post_there IsDead (λ x. turn (sees m.Dot x) (Leave (more v >>= projects count)) v) from seen (Some (record { kind = k.Mark m.Dot; place = p; bytes = s.bytes })) (Leave (more v >>= projects count)) s.is refl
      (λ s1. post_bind ts (λ b mid. (b ≡ z) × (mid ≡ from + 1 + 1)) IsDead (more v) (projects count) from s1
      (post_known (more v) ts from s1 z (from + 1 + 1) (reads_project (Unit {0}) tt ts limits v.0 s i v.1 s1))
      (λ b mid s2 q. subst (λ j. Post IsDead (projects count b ts j s2)) (sym q.1) (rest count b s2)))

  turns_dead : {x y : ExprTree} {from to : ℕ} → ChainAt ts x y from to → Behind ts to → (count : ℕ) (v : Type_) (seen : ℕ) → Post IsDead (projects count v ts from seen)
  turns_dead ex.whole b count v seen = turns_here b.chain.dot (dead_mark b.is (at_mark b)) count v seen
    where
      at_mark : {at : ℕ} (b : Behind ts at) → is_mark m.OpenBracket (k.Mark b.mark) ≡ false
      at_mark b = sym (ap (sees m.OpenBracket) b.is.is) ∙ b.chain.bracket.is
  turns_dead (ex.member s (ex.alone i none) c) b count v seen = turns_on s i (turns_dead c b) count v seen
  turns_dead {from = from} (ex.member s (ex.generic i (ty.arguments {p = p} o a r g) f) c) b count v seen =
      turns_on s i (turns_here (not_there ts m.Dot (from + 1 + 1) (k.Mark m.Less) p o refl) (dead_mark o refl)) count v seen
  turns_dead {from = from} (ex.index {p = p} s u r c) b count v seen =
      turns_here (not_there ts m.Dot from (k.Mark m.OpenBracket) p s refl) (dead_index s u r (λ id i. chain_no_name c b i)) count v seen
  turns_dead {from = from} (ex.call {p = p} s u c) b count v seen = turns_here (not_there ts m.Dot from (k.Mark m.OpenParen) p s refl) (dead_mark s refl) count v seen

  rest_never : {x y : ExprTree} {from to : ℕ} → ChainAt ts x y from to → Behind ts to → (v : Type_) (seen : ℕ) → Post No (rest_ahead limits v ts from seen)
  unfolding rest_ahead
  rest_never {from = from} c b v seen = post_bind ts IsDead No (projects limits.turns v) _ from seen (turns_dead c b limits.turns v seen) (λ y mid s1 dead. dead s1)

  -- ---- the whole

  generic_never : (id : Identifier) {x y : ExprTree} {args : List GenericArgument} {end : Place} {from mid to : ℕ} → ArgumentsAt ts args end from mid → follows (first (drop mid ts)) ≡ true →
      ChainAt ts x y mid to → Behind ts to → (seen : ℕ) → Post No (named_ahead limits id ts from seen)
  unfolding named_ahead
  generic_never id {args = args} {end = end} {from = from} {mid = mid} r f c b seen =
      let all = all_of args end in
      let p = arguments (freed limits) true limits.turns (types (freed limits) limits.turns) in
      let At : Seen → ℕ → Type 0 = No in
      let g = λ (a : Arguments × Place). next (λ t. given_ahead limits id a (sees m.OpenBracket t)) in
      let after = λ (s2 : ℕ). post_there At (λ t. given_ahead limits id all (sees m.OpenBracket t)) mid s2 (first (drop mid ts)) (given_ahead limits id all false) refl
      (ap (given_ahead limits id all) (follows_bracket (first (drop mid ts)) f)) (λ s3. rest_never c b (typed (span id.place end) (n.Named id args), greatest (map argument_height args) + 1) s3) in
      post_there At (λ t. named_ahead_by limits id (sees m.Less t)) from seen (first (drop from ts)) (named_ahead_by limits id true) refl (ap (named_ahead_by limits id) (less_there r))
      (λ s1. post_bind ts (λ a at. (a ≡ all) × (at ≡ mid)) At p g from s1 (post_known p ts from s1 all mid (reads_arguments (Unit {0}) tt (freed limits) r true limits.turns s1))
      (λ a at s2 q. subst (λ (j : ℕ). Post At (g a ts j s2)) (sym q.1) (subst (λ (a : Arguments × Place). Post At (g a ts mid s2)) (sym q.0) (after s2))))

  postfix_never : {x : ExprTree} {from to : ℕ} → PostfixAt ts x from to → Behind ts to → (seen : ℕ) → Post No (local_ahead limits ts from seen)
  unfolding local_ahead builtin_ahead named_ahead
  postfix_never {from = from} (ex.postfix (ex.number {p = p} {v = v} s) c) b seen = post_there No (local_ahead_at limits) from seen (Some (record { kind = k.Number v; place = p; bytes = s.bytes })) Refuse s.is refl tt
  postfix_never {from = from} (ex.postfix (ex.true_word {p = p} s) c) b seen = post_there No (local_ahead_at limits) from seen (Some (record { kind = k.Word w.True; place = p; bytes = s.bytes })) Refuse s.is refl tt
  postfix_never {from = from} (ex.postfix (ex.false_word {p = p} s) c) b seen = post_there No (local_ahead_at limits) from seen (Some (record { kind = k.Word w.False; place = p; bytes = s.bytes })) Refuse s.is refl tt
  postfix_never {from = from} (ex.postfix (ex.this_value {p = p} s) c) b seen = post_there No (local_ahead_at limits) from seen (Some (record { kind = k.Word w.ThisValue; place = p; bytes = s.bytes })) Refuse s.is refl tt
  postfix_never {from = from} (ex.postfix (ex.paren {p = p} s v r) c) b seen = post_there No (local_ahead_at limits) from seen (Some (record { kind = k.Mark m.OpenParen; place = p; bytes = s.bytes })) Refuse s.is refl tt
  postfix_never {from = from} (ex.postfix (ex.this_type {p = p} s) c) b seen =
      post_there No (local_ahead_at limits) from seen (Some (record { kind = k.Word w.ThisType; place = p; bytes = s.bytes })) (Take (rest_ahead limits (typed p n.ThisType, 1))) s.is refl
      (λ s1. rest_never c b (typed p n.ThisType, 1) s1)
  postfix_never {from = from} (ex.postfix (ex.construct {p = p} {q = q} {word = word} {b = kind} s e o v) c) b seen =
      let tok : Lexed = record { kind = k.Word word; place = p; bytes = s.bytes } in
      post_there No (local_ahead_at limits) from seen (Some tok) (Take (builtin_ahead limits)) s.is (ap (word_ahead limits tok) (use_builtin word kind e))
      (λ s1. post_there No (λ t. builtin_ahead_by limits (sees m.OpenParen t)) (from + 1) s1 (Some (record { kind = k.Mark m.OpenParen; place = q; bytes = o.bytes })) Refuse o.is refl tt)
  postfix_never {from = from} (ex.postfix (ex.name (ex.alone {id = id} i none)) c) b seen =
      let tok : Lexed = record { kind = k.Name; place = id.place; bytes = id.name } in
      post_there No (local_ahead_at limits) from seen (Some tok) (Take (named_ahead limits id)) i.is refl
      (λ s1. post_there No (λ t. named_ahead_by limits id (sees m.Less t)) (from + 1) s1 (first (drop (from + 1) ts)) (named_ahead_by limits id false) refl (ap (named_ahead_by limits id) (chain_less c b).is)
      (λ s2. rest_never c b (typed id.place (n.Named id []), 1) s2))
  postfix_never {from = from} (ex.postfix (ex.name (ex.generic {id = id} i r f)) c) b seen =
      let tok : Lexed = record { kind = k.Name; place = id.place; bytes = id.name } in
      post_there No (local_ahead_at limits) from seen (Some tok) (Take (named_ahead limits id)) i.is refl (λ s1. generic_never id r f c b s1)

  pub change_never : {x : Change} {from to : ℕ} → ChangeAt ts x from to → Closes ts to → (seen : ℕ) → Post (λ (a : Seen) (end : ℕ). ⊥) (local_ahead limits ts from seen)
  unfolding local_ahead
  change_never (t.assignment r s v) z seen = postfix_never r (assign_behind s) seen
  change_never {from = from} (t.step_before {p = p} {mark = mark} s q r) z seen = post_there No (local_ahead_at limits) from seen (Some (record { kind = k.Mark mark; place = p; bytes = s.bytes })) Refuse s.is refl tt
  change_never (t.step_behind {p = p} {mark = mark} {step = step} r s q) z seen = postfix_never r (step_behind mark p step s q) seen
  change_never (t.call r q) z seen = postfix_never r (closes_behind z) seen
