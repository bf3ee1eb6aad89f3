-- Of what functions, aliases and fields break the first goes first.
use Rattle.std.proofs.Common.{ℕ, suc, ◌+◌, ◌<◌, List, [], ◌++◌, length, arith}
use Rattle.std.specs.Prelude.{nat_le}
use Rattle.slang_tree.specs.declared.types.Identifier.{Identifier}
use Rattle.slang_tree.specs.declared.types.TypeTree.{TypeTree}
use Rattle.slang_tree.specs.declared.statements.DeclaredName.{DeclaredName}
use Rattle.slang_tree.specs.declared.statements.Block.{Block}
use Rattle.slang_tree.specs.declared.declarations.GenericParameter.{GenericParameter}
use Rattle.slang_tree.specs.declared.declarations.Constraint.{Constraint}
use Rattle.slang_tree.specs.declared.declarations.Parameter.{Parameter}
use Rattle.slang_tree.specs.declared.declarations.Function.{Function}
use Rattle.slang_tree.specs.declared.declarations.Alias.{Alias}
use Rattle.slang_tree.specs.declared.declarations.Field.{Field}
use Rattle.slang_reading.specs.Lexed.{Lexed}
use Rattle.slang_grammar.specs.Standing.{NameStands}
use Rattle.slang_grammar.specs.Types.{TypeAt}
use Rattle.slang_grammar.specs.Descent.{Limits}
use Rattle.statement_grammar.specs.declared.attributes.Target.{Target}
use Rattle.statement_grammar.specs.declared.attributes.Target.TheVariants as target
use Rattle.statement_grammar.specs.Statements as st
use Rattle.statement_grammar.specs.Statements.{BlockAt}
use Rattle.statement_fits.proofs.Moves.{stats_move}
use Rattle.declaration_grammar.specs.Parts.{GenericsAt, ConstraintsAt, ParametersAt}
use Rattle.declaration_grammar.specs.Declarations as t
use Rattle.declaration_grammar.specs.Declarations.{FunctionAt, AliasAt, MoreFieldsAt, FieldAt}
use Rattle.expression_limits.specs.Breaks.{Break, name_there}
use Rattle.expression_limits.specs.Types.{type_breaks}
use Rattle.expression_limits.proofs.Moves.{type_moves}
use Rattle.statement_limits.specs.Locals.{lengths_breaks}
use Rattle.statement_limits.proofs.Order.{Rules, Late, late_append, late_rules, far, Known, known_none, known_wider, known_append, known_rules}
use Rattle.statement_limits.proofs.Late.{late_long, late_type, known_type}
use Rattle.statement_limits.proofs.LocalsOrder.{known_lengths, known_declared}
use Rattle.statement_limits.proofs.StatementsOrder.{known_block}
use Rattle.declaration_limits.specs.Declarations.{Before, typed_breaks, body_breaks, function_breaks, alias_breaks, more_fields_breaks, field_breaks}
use Rattle.declaration_limits.proofs.PartsOrder.{known_named, known_generics, known_constraints, known_parameters}

module _ (ts : List Lexed) where
  -- what begins with a word that shows what attributes stand before
  pub known_word : (from to : ℕ) (xs : List Break) {ys : List Break} → Rules from xs → Known ts (from + 1) to ys → Known ts from to (xs ++ ys)
  known_word from to xs {ys = ys} h k = let u = k.goes in known_rules ts from to xs (omega (arith, u)) h (known_wider ts (from + 1) to from to (omega arith) (omega arith) k)

  pub late_word : (from to : ℕ) (xs ys : List Break) → Rules from xs → Known ts (from + 1) to ys → Late from (xs ++ ys)
  late_word from to xs ys h k = late_append from xs ys (late_rules from from xs h) (far ts from (from + 1) to (omega arith) k)

  module _ (limits : Limits) (d : ℕ) where
    -- ---- functions, aliases, fields, with room for a node

    pub known_typed : {x : TypeTree} {id : Identifier} {from mid : ℕ} → (r : TypeAt ts x from mid) → (n : NameStands ts mid id) → Known ts from (mid + 1) (typed_breaks ts limits r n (suc d))
    known_typed {id = id} {from = from} {mid = mid} r n = known_append ts from mid (mid + 1) (known_type ts limits r (suc d)) (known_named ts limits id mid)

    pub late_typed : {x : TypeTree} {id : Identifier} {from mid : ℕ} → (r : TypeAt ts x from mid) → (n : NameStands ts mid id) → Late from (typed_breaks ts limits r n (suc d))
    late_typed {id = id} {from = from} {mid = mid} r n = late_append from (type_breaks ts limits r (suc d)) (name_there ts limits id mid) (late_type ts limits r d) (late_long ts from mid (nat_le (length id.name) limits.names))

    block_moves : {x : Block} {from to : ℕ} → BlockAt ts x from to → from < to
    block_moves (st.block o r) = let u = stats_move ts r in omega (arith, u)

    known_body : {all : List GenericParameter} {list : List Parameter} {wheres : List Constraint} {body : Block} {from mid at last to : ℕ} →
        (g : GenericsAt ts all from mid) → (l : ParametersAt ts list mid at) → (c : ConstraintsAt ts [] wheres at last) → (b : BlockAt ts body last to) → Known ts from to (body_breaks ts limits g l c b (suc d))
    known_body {from = from} {mid = mid} {at = at} {last = last} {to = to} g l c b =
        known_append ts from mid to (known_generics ts limits g)
        (known_append ts mid at to (known_parameters ts limits d l) (known_append ts at last to (known_constraints ts limits c) (known_block ts limits b (suc d))))

    body_moves : {all : List GenericParameter} {list : List Parameter} {wheres : List Constraint} {body : Block} {from mid at last to : ℕ} →
        GenericsAt ts all from mid → ParametersAt ts list mid at → ConstraintsAt ts [] wheres at last → BlockAt ts body last to → from < to
    body_moves g l c b =
        let u1 = (known_generics ts limits g).goes in
        let u2 = (known_parameters ts limits d l).goes in
        let u3 = (known_constraints ts limits c).goes in
        let u4 = block_moves b in
        omega (arith, u1, u2, u3, u4)

    known_fields : {xs ys : List DeclaredName} {from to : ℕ} → (s : MoreFieldsAt ts xs ys from to) → Known ts from to (more_fields_breaks ts limits s)
    known_fields {from = from} {to = to} t.end = known_none ts from to (omega arith)
    known_fields {from = from} {to = to} (t.more {mid = mid} s v r) =
        known_append ts from mid to (known_wider ts (from + 1) mid from mid (omega arith) (omega arith) (known_declared ts limits v)) (known_fields r)

    -- attributes stand before it, of which those that may not are known at one token
    module _ (before : Before) (rules : (what : Target) (at : ℕ) → Rules at (before what at)) where
      pub known_function : {x : Function} {from to : ℕ} → (s : FunctionAt ts x from to) → (what : Target) → Known ts from to (function_breaks ts limits s what before (suc d))
      known_function {from = from} {to = to} (t.function {mid = mid} (t.static s r) n g l c b) what =
          known_word from to (before target.Other from) (rules target.Other from) (known_append ts (from + 1) (mid + 1) to (known_typed r n) (known_body g l c b))
      known_function {from = from} {to = to} (t.function {mid = mid} (t.plain r) n g l c b) what =
          known_append ts from (mid + 1) to (known_typed r n) (known_rules ts (mid + 1) to (before what (mid + 1)) (body_moves g l c b) (rules what (mid + 1)) (known_body g l c b))

      pub late_function : {x : Function} {from to : ℕ} → (s : FunctionAt ts x from to) → (what : Target) → Late from (function_breaks ts limits s what before (suc d))
      late_function {from = from} {to = to} (t.function {mid = mid} (t.static s r) n g l c b) what =
          late_word from to (before target.Other from) (typed_breaks ts limits r n (suc d) ++ body_breaks ts limits g l c b (suc d)) (rules target.Other from) (known_append ts (from + 1) (mid + 1) to (known_typed r n) (known_body g l c b))
      late_function {from = from} {to = to} (t.function {mid = mid} (t.plain r) n g l c b) what =
          let u = type_moves ts r in
          late_append from (typed_breaks ts limits r n (suc d)) (before what (mid + 1) ++ body_breaks ts limits g l c b (suc d)) (late_typed r n)
          (late_append from (before what (mid + 1)) (body_breaks ts limits g l c b (suc d)) (late_rules from (mid + 1) (before what (mid + 1)) (rules what (mid + 1)))
          (far ts from (mid + 1) to (omega (arith, u)) (known_body g l c b)))

      -- behind the word of an alias
      known_aliased : (id : Identifier) {tree : TypeTree} {from at : ℕ} → (r : TypeAt ts tree (from + 1 + 1) at) → Known ts from (at + 1) (name_there ts limits id from ++ type_breaks ts limits r (suc d))
      known_aliased id {from = from} {at = at} r =
          known_append ts from (from + 1) (at + 1) (known_named ts limits id from) (known_wider ts (from + 1 + 1) at (from + 1) (at + 1) (omega arith) (omega arith) (known_type ts limits r (suc d)))

      pub known_alias : {x : Alias} {from to : ℕ} → (s : AliasAt ts x from to) → Known ts from to (alias_breaks ts limits s before (suc d))
      known_alias {from = from} (t.type_def {mid = mid} s r n z) =
          known_word from (mid + 1 + 1) (before target.Other from) (rules target.Other from) (known_wider ts (from + 1) (mid + 1) (from + 1) (mid + 1 + 1) (omega arith) (omega arith) (known_typed r n))
      known_alias {from = from} (t.type_alias {at = at} {id = id} s n o r z) = known_word from (at + 1) (before target.Other from) (rules target.Other from) (known_aliased id r)

      pub late_alias : {x : Alias} {from to : ℕ} → (s : AliasAt ts x from to) → Late from (alias_breaks ts limits s before (suc d))
      late_alias {from = from} (t.type_def {mid = mid} s r n z) = late_word from (mid + 1) (before target.Other from) (typed_breaks ts limits r n (suc d)) (rules target.Other from) (known_typed r n)
      late_alias {from = from} (t.type_alias {at = at} {id = id} s n o r z) =
          late_word from (at + 1) (before target.Other from) (name_there ts limits id (from + 1) ++ type_breaks ts limits r (suc d)) (rules target.Other from) (known_aliased id r)

      pub known_field : {x : Field} {from to : ℕ} → (s : FieldAt ts x from to) → Known ts from to (field_breaks ts limits s before (suc d))
      known_field {from = from} (t.field {mid = mid} {next = next} {at = at} r (st.declared_name n q) v z) =
          let rest = known_append ts (mid + 1) next at (known_lengths ts limits q) (known_fields v) in
          let u = rest.goes in
          known_append ts from (mid + 1) (at + 1) (known_typed r n)
          (known_rules ts (mid + 1) (at + 1) (before target.Other (mid + 1)) (omega (arith, u)) (rules target.Other (mid + 1)) (known_wider ts (mid + 1) at (mid + 1) (at + 1) (omega arith) (omega arith) rest))

      pub late_field : {x : Field} {from to : ℕ} → (s : FieldAt ts x from to) → Late from (field_breaks ts limits s before (suc d))
      late_field {from = from} (t.field {mid = mid} {next = next} {at = at} r (st.declared_name n q) v z) =
          let u = type_moves ts r in
          let rest = lengths_breaks ts limits q ++ more_fields_breaks ts limits v in
          late_append from (typed_breaks ts limits r n (suc d)) (before target.Other (mid + 1) ++ rest) (late_typed r n)
          (late_append from (before target.Other (mid + 1)) rest (late_rules from (mid + 1) (before target.Other (mid + 1)) (rules target.Other (mid + 1)))
          (far ts from (mid + 1) at (omega (arith, u)) (known_append ts (mid + 1) next at (known_lengths ts limits q) (known_fields v))))
