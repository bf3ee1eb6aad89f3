-- Parts of declarations: what was looked at of one, but for the last token, goes on to be one.
use Rattle.std.proofs.Common.{Bool, true, false, ◌≡◌, ℕ, ◌+◌, ◌<◌, List, [], ◌∷◌, ◌++◌, length, Option, Some, None, refl, ap, arith}
use Rattle.slang_names.specs.declared.places.Place.{Place}
use Rattle.slang_names.specs.declared.places.Mode.{Mode}
use Rattle.slang_names.specs.declared.places.Mode.TheVariants as mode
use Rattle.slang_names.specs.declared.codes.ModuleCode.TheVariants as code
use Rattle.slang_tree.specs.declared.types.Identifier.{Identifier}
use Rattle.slang_tree.specs.declared.types.TypeTree.{TypeTree}
use Rattle.slang_tree.specs.declared.declarations.GenericParameter.{GenericParameter}
use Rattle.slang_tree.specs.declared.declarations.GenericParameterNode.TheVariants as g
use Rattle.slang_tree.specs.declared.declarations.Constraint.{Constraint}
use Rattle.slang_tree.specs.declared.declarations.Parameter.{Parameter}
use Rattle.slang_tokens.specs.declared.tokens.Kind.{Kind}
use Rattle.slang_tokens.specs.declared.tokens.Kind.TheVariants as k
use Rattle.slang_tokens.specs.declared.tokens.Mark.TheVariants as m
use Rattle.slang_tokens.specs.declared.tokens.Word.{Word}
use Rattle.slang_tokens.specs.declared.tokens.Word.TheVariants as w
use Rattle.slang_reading.specs.Lexed.{Lexed}
use Rattle.slang_reading.specs.Reading.{Take, if_fits, ◌>>=◌, pure, next, turns}
use Rattle.slang_reading.specs.Kinds.{is_word, sees, sees_word, span}
use Rattle.slang_reading.proofs.Viable.{Finishes, Viable, viable_pure, finishes_pure, EachPair, finishes_next_take, finishes_next_leave, finishes_next_end, viable_next, Ready, ready_bind, ready_last, ready_turns}
use Rattle.slang_grammar.specs.Descent.{Limits, fits_in, expect, name, identifier}
use Rattle.slang_grammar.specs.TypesDescent.{types}
use Rattle.slang_grammar.proofs.TypesReady as t
use Rattle.slang_grammar.proofs.TypesReady.{token, mark, int_word, Any, ready_expect, ready_name, ready_types, pair_short, pair_items}
use Rattle.statement_grammar.specs.StatementsDescent.{declared_name}
use Rattle.statement_ends.proofs.Roomy.{roomy, wider, word}
use Rattle.statement_ends.proofs.Names.{ready_declared}
use Rattle.declaration_grammar.specs.declared.tables.DeclarationUse.{DeclarationUse}
use Rattle.declaration_grammar.specs.declared.tables.DeclarationUse.TheVariants as u
use Rattle.declaration_grammar.specs.Tables.{mode_of, declaration_use}
use Rattle.declaration_grammar.specs.Parts.{generic_parameter, constraint_of, parameter_of}
use Rattle.declaration_grammar.specs.PartsDescent.{expect_word, Listed, name_behind, names, bound_by, bound_rest, number_rest, generic_word, generic_by, generic_at, generic, generic_more, generics_rest, generics_by, generics, heads_by, heads, constraint_more, constraints, Semantic, semantic_by, semantic, parameter_rest, plain_parameter, moded_parameter, plain_as, parameter_word, parameter_by, parameter_at, parameter, parameter_more, some_parameters, parameters_by, parameters, closed_by, closed}
use Rattle.declaration_ends.proofs.Words.{ready_word}

abbrev pub name_token : Lexed
name_token = token k.Name

-- no comma
abbrev pub Uncommaed : Option Lexed → Type 0
Uncommaed x = sees m.Comma x ≡ false

-- what ends generic parameters, names behind a colon, and constraints
abbrev pub NoLess : Option Lexed → Type 0
NoLess x = sees m.Less x ≡ false

abbrev pub Headed : Option Lexed → Type 0
Headed x = (sees m.Colon x ≡ false) × Uncommaed x

abbrev pub Constrained : Option Lexed → Type 0
Constrained x = (sees_word w.Where x ≡ false) × Uncommaed x

module _ (limits : Limits) where
  abbrev large : Limits
  large = roomy limits

  pub ready_id : (F : Option Lexed → Type 0) → Ready F (name_token ∷ []) (name limits) (name large)
  ready_id F = ready_name limits large (wider limits) F

  -- ---- names behind commas

  viable_name_behind : (list : Listed limits) → Viable Any (name_behind limits list) (name_behind large list)
  unfolding name_behind
  viable_name_behind list = (ready_bind Any Any (mark m.Comma ∷ []) (name_token ∷ []) (expect m.Comma) (expect m.Comma) _ _ (λ rest f. tt) (ready_expect Any m.Comma)
      (λ o. ready_last Any (name_token ∷ []) (name limits) (name large) (λ id. (list.0 ++ id ∷ [], id.place)) (ready_id Any))).viable

  pub ready_names : Ready Uncommaed (name_token ∷ []) (names limits) (names large)
  unfolding names
  ready_names = ready_bind Uncommaed Any (name_token ∷ []) [] (name limits) (name large) _ _ (λ rest f. tt) (ready_id Any)
      (λ id. ready_turns Uncommaed Any (sees m.Comma) (name_behind limits) (name_behind large) limits.turns large.turns (id ∷ [], id.place) (omega arith) (λ y c. tt) (λ y c. c) viable_name_behind)

  -- ---- generic parameters

  module _ (F : Option Lexed → Type 0) where
    ready_bound : (id : Identifier) → Ready F (mark m.Colon ∷ name_token ∷ []) (bound_rest limits id) (bound_rest large id)
    unfolding bound_rest
    ready_bound id = record { viable = viable_next F (λ x. bound_by large id (sees m.Colon x)) (λ x. bound_by limits id (sees m.Colon x)) (mark m.Colon ∷ name_token ∷ []) finishes (λ x. by (sees m.Colon x)); finishes = finishes }
      where
        more : Ready F (name_token ∷ []) (name limits >>= (λ b. pure (generic_parameter (span id.place b.place) (g.Term id (Some b))))) (name large >>= (λ b. pure (generic_parameter (span id.place b.place) (g.Term id (Some b)))))
        more = ready_last F (name_token ∷ []) (name limits) (name large) (λ b. generic_parameter (span id.place b.place) (g.Term id (Some b))) (ready_id F)

        finishes : Finishes F (mark m.Colon ∷ name_token ∷ []) (next (λ x. bound_by large id (sees m.Colon x)))
        finishes = finishes_next_take F (λ x. bound_by large id (sees m.Colon x)) (mark m.Colon) (name_token ∷ []) _ refl more.finishes

        by : (b : Bool) → EachPair (Viable F) (bound_by limits id b) (bound_by large id b)
        by true = more.viable
        by false = viable_pure F _

    ready_number : (begin : Place) → Ready F (name_token ∷ mark m.Colon ∷ int_word ∷ []) (number_rest limits begin) (number_rest large begin)
    unfolding number_rest
    ready_number begin = ready_bind F Any (name_token ∷ []) (mark m.Colon ∷ int_word ∷ []) (name limits) (name large) _ _ (λ rest f. tt) (ready_id Any)
        (λ id. ready_bind F Any (mark m.Colon ∷ []) (int_word ∷ []) (expect m.Colon) (expect m.Colon) _ _ (λ rest f. tt) (ready_expect Any m.Colon)
        (λ o. ready_last F (int_word ∷ []) (expect_word w.Int) (expect_word w.Int) (λ end. generic_parameter (span begin end) (g.Number id)) (ready_word F w.Int)))

    ready_generic : (count : ℕ) → Ready F (name_token ∷ mark m.Colon ∷ name_token ∷ []) (generic limits count) (generic large count)
    unfolding generic
    ready_generic count = record {
      viable = viable_next F (λ x. if_fits (fits_in large count large.items) code.TooLong x (generic_at large x)) (λ x. if_fits (fits_in limits count limits.items) code.TooLong x (generic_at limits x)) (name_token ∷ mark m.Colon ∷ name_token ∷ []) finishes
          (λ x. pair_items limits large (wider limits) F x count limits.items large.items (generic_at limits x) (generic_at large x) (go x));
      finishes = finishes;
    }
      where
        finishes : Finishes F (name_token ∷ mark m.Colon ∷ name_token ∷ []) (next (λ x. if_fits (fits_in large count large.items) code.TooLong x (generic_at large x)))
        finishes = finishes_next_take F (λ x. if_fits (fits_in large count large.items) code.TooLong x (generic_at large x)) name_token (mark m.Colon ∷ name_token ∷ []) _ refl (ready_bound (identifier name_token)).finishes

        worded : (t : Lexed) (b : Bool) → EachPair (Viable F) (generic_word limits t b) (generic_word large t b)
        worded t true = (ready_number t.place).viable
        worded t false = tt

        by : (t : Lexed) (kind : Kind) → EachPair (Viable F) (generic_by limits t kind) (generic_by large t kind)
        by t k.Name = pair_short limits large (wider limits) F t (Take (bound_rest limits (identifier t))) (Take (bound_rest large (identifier t))) (ready_bound (identifier t)).viable
        by t (k.Word word) = worded t (is_word w.Let (k.Word word))
        by t (k.Number v) = tt
        by t k.String = tt
        by t (k.Mark mark) = tt

        go : (x : Option Lexed) → EachPair (Viable F) (generic_at limits x) (generic_at large x)
        go (Some t) = by t t.kind
        go None = tt

  viable_generic_more : (list : List GenericParameter) → Viable Any (generic_more limits list) (generic_more large list)
  unfolding generic_more
  viable_generic_more list = (ready_bind Any Any (mark m.Comma ∷ []) (name_token ∷ mark m.Colon ∷ name_token ∷ []) (expect m.Comma) (expect m.Comma) _ _ (λ rest f. tt) (ready_expect Any m.Comma)
      (λ o. ready_last Any (name_token ∷ mark m.Colon ∷ name_token ∷ []) (generic limits (length list)) (generic large (length list)) (λ x. list ++ x ∷ []) (ready_generic Any (length list)))).viable

  viable_generics_rest : (F : Option Lexed → Type 0) → Viable F (generics_rest limits) (generics_rest large)
  unfolding generics_rest
  viable_generics_rest F = (ready_bind F Any (name_token ∷ mark m.Colon ∷ name_token ∷ []) (mark m.Greater ∷ []) (generic limits 0) (generic large 0) _ _ (λ rest f. tt) (ready_generic Any 0)
      (λ x. ready_bind F Uncommaed [] (mark m.Greater ∷ []) (turns (sees m.Comma) (generic_more limits) limits.turns (x ∷ [])) (turns (sees m.Comma) (generic_more large) large.turns (x ∷ [])) _ _ (λ rest f. refl)
      (ready_turns Uncommaed Any (sees m.Comma) (generic_more limits) (generic_more large) limits.turns large.turns (x ∷ []) (omega arith) (λ y c. tt) (λ y c. c) viable_generic_more)
      (λ list. ready_last F (mark m.Greater ∷ []) (expect m.Greater) (expect m.Greater) (λ end. list) (ready_expect F m.Greater)))).viable

  pub ready_generics : Ready NoLess [] (generics limits) (generics large)
  unfolding generics
  ready_generics = record { viable = viable_next NoLess (λ x. generics_by large (sees m.Less x)) (λ x. generics_by limits (sees m.Less x)) [] finishes (λ x. by (sees m.Less x)); finishes = finishes }
    where
      finishes : Finishes NoLess [] (next (λ x. generics_by large (sees m.Less x)))
      finishes = finishes_next_end NoLess (λ x. generics_by large (sees m.Less x)) (λ x. pure []) (λ x f. ap (generics_by large) f) (λ x. finishes_pure NoLess [])

      by : (b : Bool) → EachPair (Viable NoLess) (generics_by limits b) (generics_by large b)
      by true = viable_generics_rest NoLess
      by false = viable_pure NoLess []

  -- ---- heads and constraints

  pub ready_heads : Ready Headed [] (heads limits) (heads large)
  unfolding heads
  ready_heads = record { viable = viable_next Headed (λ x. heads_by large (sees m.Colon x)) (λ x. heads_by limits (sees m.Colon x)) [] finishes (λ x. by (sees m.Colon x)); finishes = finishes }
    where
      finishes : Finishes Headed [] (next (λ x. heads_by large (sees m.Colon x)))
      finishes = finishes_next_end Headed (λ x. heads_by large (sees m.Colon x)) (λ x. pure []) (λ x f. ap (heads_by large) f.0) (λ x. finishes_pure Headed [])

      by : (b : Bool) → EachPair (Viable Headed) (heads_by limits b) (heads_by large b)
      by true = (ready_bind Headed Uncommaed (name_token ∷ []) [] (names limits) (names large) _ _ (λ rest f. f.1) ready_names (λ list. record { viable = viable_pure Headed _; finishes = finishes_pure Headed _ })).viable
      by false = viable_pure Headed []

  viable_constraint_more : (all : List Constraint) → Viable Uncommaed (constraint_more limits all) (constraint_more large all)
  unfolding constraint_more
  viable_constraint_more all = (ready_bind Uncommaed Any (word w.Where ∷ []) (name_token ∷ mark m.Colon ∷ name_token ∷ []) (expect_word w.Where) (expect_word w.Where) _ _ (λ rest f. tt) (ready_word Any w.Where)
      (λ begin. ready_bind Uncommaed Any (name_token ∷ []) (mark m.Colon ∷ name_token ∷ []) (name limits) (name large) _ _ (λ rest f. tt) (ready_id Any)
      (λ subject. ready_bind Uncommaed Any (mark m.Colon ∷ []) (name_token ∷ []) (expect m.Colon) (expect m.Colon) _ _ (λ rest f. tt) (ready_expect Any m.Colon)
      (λ o. ready_last Uncommaed (name_token ∷ []) (names limits) (names large) (λ list. all ++ constraint_of (span begin list.1) subject list.0 ∷ []) ready_names)))).viable

  pub ready_constraints : Ready Constrained [] (constraints limits) (constraints large)
  unfolding constraints
  ready_constraints = ready_turns Constrained Uncommaed (sees_word w.Where) (constraint_more limits) (constraint_more large) limits.turns large.turns [] (omega arith) (λ y c. c.1) (λ y c. c.0) viable_constraint_more

  -- ---- parameters

  module _ (F : Option Lexed → Type 0) (d e : ℕ) (h : d + 1 < e) where
    abbrev semantic_path : List Lexed
    semantic_path = mark m.Colon ∷ name_token ∷ []

    ready_semantic : (p : Place) → Ready F semantic_path (semantic limits d p) (semantic large e p)
    unfolding semantic
    ready_semantic p = record { viable = viable_next F (λ x. semantic_by large e p (sees m.Colon x)) (λ x. semantic_by limits d p (sees m.Colon x)) semantic_path finishes (λ x. by (sees m.Colon x)); finishes = finishes }
      where
        more : Ready {A = Semantic limits d} F (name_token ∷ []) (name limits >>= (λ id. pure (Some id, id.place))) (name large >>= (λ id. pure (Some id, id.place)))
        more = ready_last F (name_token ∷ []) (name limits) (name large) (λ id. (Some id, id.place)) (ready_id F)

        finishes : Finishes F semantic_path (next (λ x. semantic_by large e p (sees m.Colon x)))
        finishes = finishes_next_take F (λ x. semantic_by large e p (sees m.Colon x)) (mark m.Colon) (name_token ∷ []) _ refl more.finishes

        by : (b : Bool) → EachPair (Viable F) (semantic_by limits d p b) (semantic_by large e p b)
        by true = more.viable
        by false = viable_pure F _

    ready_parameter_rest : (begin : Place) (how : Mode) (t : TypeTree) → Ready F (name_token ∷ semantic_path) (parameter_rest limits d begin how t) (parameter_rest large e begin how t)
    unfolding parameter_rest
    ready_parameter_rest begin how t = ready_bind F (λ x. sees m.OpenBracket x ≡ false) (name_token ∷ []) semantic_path (declared_name limits) (declared_name large) _ _ (λ rest f. refl) (ready_declared limits)
        (λ x. ready_last F semantic_path (semantic limits d x.1) (semantic large e x.1) (λ (id : Semantic limits d). parameter_of (span begin id.1) how t x.0 id.0) (ready_semantic x.1))

    ready_plain : Ready F (int_word ∷ name_token ∷ semantic_path) (plain_parameter limits d) (plain_parameter large e)
    unfolding plain_parameter
    ready_plain = ready_bind F t.Ends (int_word ∷ []) (name_token ∷ semantic_path) (types limits d) (types large e) _ _ (λ rest f. (refl, refl, refl)) (ready_types limits large (wider limits) e d h)
        (λ x. ready_parameter_rest x.0.place mode.In x.0)

    viable_moded : (begin : Place) (how : Mode) → Viable F (moded_parameter limits d begin how) (moded_parameter large e begin how)
    unfolding moded_parameter
    viable_moded begin how = (ready_bind F t.Ends (int_word ∷ []) (name_token ∷ semantic_path) (types limits d) (types large e) _ _ (λ rest f. (refl, refl, refl)) (ready_types limits large (wider limits) e d h)
        (λ x. ready_parameter_rest begin how x.0)).viable

    ready_parameter : (count : ℕ) → Ready F (int_word ∷ name_token ∷ semantic_path) (parameter limits d count) (parameter large e count)
    unfolding parameter
    ready_parameter count = record {
      viable = viable_next F (λ x. if_fits (fits_in large count large.items) code.TooLong x (parameter_at large e x)) (λ x. if_fits (fits_in limits count limits.items) code.TooLong x (parameter_at limits d x)) (int_word ∷ name_token ∷ semantic_path) finishes
          (λ x. pair_items limits large (wider limits) F x count limits.items large.items (parameter_at limits d x) (parameter_at large e x) (go x));
      finishes = finishes;
    }
      where
        finishes : Finishes F (int_word ∷ name_token ∷ semantic_path) (next (λ x. if_fits (fits_in large count large.items) code.TooLong x (parameter_at large e x)))
        finishes = finishes_next_leave F (λ x. if_fits (fits_in large count large.items) code.TooLong x (parameter_at large e x)) int_word (name_token ∷ semantic_path) (plain_parameter large e) refl ready_plain.finishes

        plain : (v : DeclarationUse) → EachPair (Viable F) (plain_as limits d v) (plain_as large e v)
        plain u.Typed = ready_plain.viable
        plain u.Struct = tt
        plain u.Interface = tt
        plain u.Extension = tt
        plain u.TypeDef = tt
        plain u.TypeAlias = tt
        plain u.Static = tt
        plain u.Associated = tt
        plain u.Nothing = tt

        worded : (t : Lexed) (word : Word) (how : Option Mode) → EachPair (Viable F) (parameter_word limits d t word how) (parameter_word large e t word how)
        worded t word (Some how) = viable_moded t.place how
        worded t word None = plain (declaration_use (k.Word word))

        by : (t : Lexed) (kind : Kind) → EachPair (Viable F) (parameter_by limits d t kind) (parameter_by large e t kind)
        by t k.Name = ready_plain.viable
        by t (k.Word word) = worded t word (mode_of word)
        by t (k.Number v) = tt
        by t k.String = tt
        by t (k.Mark mark) = tt

        go : (x : Option Lexed) → EachPair (Viable F) (parameter_at limits d x) (parameter_at large e x)
        go (Some t) = by t t.kind
        go None = tt

  module _ (d e : ℕ) (h : d + 1 < e) where
    abbrev parameter_path : List Lexed
    parameter_path = int_word ∷ name_token ∷ mark m.Colon ∷ name_token ∷ []

    viable_parameter_more : (list : List Parameter) → Viable Any (parameter_more limits d list) (parameter_more large e list)
    unfolding parameter_more
    viable_parameter_more list = (ready_bind Any Any (mark m.Comma ∷ []) parameter_path (expect m.Comma) (expect m.Comma) _ _ (λ rest f. tt) (ready_expect Any m.Comma)
        (λ o. ready_last Any parameter_path (parameter limits d (length list)) (parameter large e (length list)) (λ x. list ++ x ∷ []) (ready_parameter Any d e h (length list)))).viable

    viable_some_parameters : (F : Option Lexed → Type 0) → Viable F (some_parameters limits d) (some_parameters large e)
    unfolding some_parameters
    viable_some_parameters F = (ready_bind F Any parameter_path (mark m.CloseParen ∷ []) (parameter limits d 0) (parameter large e 0) _ _ (λ rest f. tt) (ready_parameter Any d e h 0)
        (λ x. ready_bind F Uncommaed [] (mark m.CloseParen ∷ []) (turns (sees m.Comma) (parameter_more limits d) limits.turns (x ∷ [])) (turns (sees m.Comma) (parameter_more large e) large.turns (x ∷ [])) _ _ (λ rest f. refl)
        (ready_turns Uncommaed Any (sees m.Comma) (parameter_more limits d) (parameter_more large e) limits.turns large.turns (x ∷ []) (omega arith) (λ y c. tt) (λ y c. c) viable_parameter_more)
        (λ list. ready_last F (mark m.CloseParen ∷ []) (expect m.CloseParen) (expect m.CloseParen) (λ end. list) (ready_expect F m.CloseParen)))).viable

    pub ready_parameters : (F : Option Lexed → Type 0) → Ready F (mark m.OpenParen ∷ mark m.CloseParen ∷ []) (parameters limits d) (parameters large e)
    unfolding parameters
    ready_parameters F = ready_bind F Any (mark m.OpenParen ∷ []) (mark m.CloseParen ∷ []) (expect m.OpenParen) (expect m.OpenParen) _ _ (λ rest f. tt) (ready_expect Any m.OpenParen) (λ o. rest)
      where
        none : Ready {A = List Parameter} F (mark m.CloseParen ∷ []) (expect m.CloseParen >>= (λ p. pure [])) (expect m.CloseParen >>= (λ p. pure []))
        none = ready_last F (mark m.CloseParen ∷ []) (expect m.CloseParen) (expect m.CloseParen) (λ p. []) (ready_expect F m.CloseParen)

        finishes : Finishes F (mark m.CloseParen ∷ []) (next (λ x. parameters_by large e (sees m.CloseParen x)))
        finishes = finishes_next_leave F (λ x. parameters_by large e (sees m.CloseParen x)) (mark m.CloseParen) [] _ refl none.finishes

        by : (b : Bool) → EachPair (Viable F) (parameters_by limits d b) (parameters_by large e b)
        by true = none.viable
        by false = viable_some_parameters F

        rest : Ready F (mark m.CloseParen ∷ []) (next (λ x. parameters_by limits d (sees m.CloseParen x))) (next (λ x. parameters_by large e (sees m.CloseParen x)))
        rest = record { viable = viable_next F (λ x. parameters_by large e (sees m.CloseParen x)) (λ x. parameters_by limits d (sees m.CloseParen x)) (mark m.CloseParen ∷ []) finishes (λ x. by (sees m.CloseParen x)); finishes = finishes }

-- ---- what closes a struct, an interface or an extension

abbrev pub closed_path : List Lexed
closed_path = mark m.CloseBrace ∷ mark m.Semicolon ∷ []

pub ready_closed : (F : Option Lexed → Type 0) → Ready F closed_path closed closed
unfolding closed
ready_closed F = ready_bind F Any (mark m.CloseBrace ∷ []) (mark m.Semicolon ∷ []) (expect m.CloseBrace) (expect m.CloseBrace) _ _ (λ rest f. tt) (ready_expect Any m.CloseBrace) rest
  where
    finishes : (p : Place) → Finishes F (mark m.Semicolon ∷ []) (next (λ x. closed_by p x (sees m.Semicolon x)))
    finishes p = finishes_next_take F (λ x. closed_by p x (sees m.Semicolon x)) (mark m.Semicolon) [] (pure _) refl (finishes_pure F _)

    by : (p : Place) (x : Option Lexed) (b : Bool) → EachPair (Viable F) (closed_by p x b) (closed_by p x b)
    by p x true = viable_pure F _
    by p x false = viable_pure F p

    rest : (p : Place) → Ready F (mark m.Semicolon ∷ []) (next (λ x. closed_by p x (sees m.Semicolon x))) (next (λ x. closed_by p x (sees m.Semicolon x)))
    rest p = record { viable = viable_next F (λ x. closed_by p x (sees m.Semicolon x)) (λ x. closed_by p x (sees m.Semicolon x)) (mark m.Semicolon ∷ []) (finishes p) (λ x. by p x (sees m.Semicolon x)); finishes = finishes p }
