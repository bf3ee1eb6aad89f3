-- Locals: what was looked at of them, but for the last token, goes on to be locals.
use Rattle.std.proofs.Common.{Bool, true, false, ◌≡◌, ℕ, ◌+◌, ◌<◌, [], ◌∷◌, ◌++◌, Option, None, refl, sym, ◌∙◌, ap, arith}
use Rattle.slang_names.specs.declared.places.Place.{Place}
use Rattle.slang_tree.specs.declared.types.TypeTree.{TypeTree}
use Rattle.slang_tokens.specs.declared.tokens.Kind.TheVariants as k
use Rattle.slang_tokens.specs.declared.tokens.Mark.{Mark}
use Rattle.slang_tokens.specs.declared.tokens.Mark.TheVariants as m
use Rattle.slang_reading.specs.Lexed.{Lexed}
use Rattle.slang_reading.specs.Reading.{pure, first, next, turns}
use Rattle.slang_reading.specs.Kinds.{sees, span}
use Rattle.slang_reading.proofs.Marks.{sees_some}
use Rattle.slang_reading.proofs.Viable.{Finishes, Viable, viable_pure, finishes_pure, viable_bind, EachPair, finishes_next_end, viable_next, Ready, ready_bind, ready_last, ready_turns}
use Rattle.slang_grammar.specs.Descent.{Limits, expect}
use Rattle.slang_grammar.specs.TypesDescent.{types}
use Rattle.slang_grammar.proofs.TypesReady as t
use Rattle.slang_grammar.proofs.TypesReady.{token, mark, int_word, Any, ready_expect, ready_types}
use Rattle.expression_grammar.specs.Ends.{goes_on_by, goes_on}
use Rattle.expression_grammar.proofs.Ready.{Ends}
use Rattle.statement_grammar.specs.Statements.{local_name, local_of}
use Rattle.statement_grammar.specs.StatementsDescent.{Named, declared_name, initials, Names, begun_by, one_name, name_more, names_rest, variable, constant}
use Rattle.statement_ends.proofs.Roomy.{roomy, wider}
use Rattle.statement_ends.proofs.Names.{ready_declared, ready_initials}

-- a mark with which an expression would go on does not stand behind one
pub ends_not : (a : Mark) → goes_on_by (k.Mark a) ≡ true → (x : Option Lexed) → goes_on x ≡ false → sees a x ≡ false
ends_not a e x f = by (sees a x) refl
  where
    by : (b : Bool) → sees a x ≡ b → sees a x ≡ false
    by true q = let u = sees_some a x q in let c : true ≡ false = sym (ap goes_on u.1 ∙ (ap goes_on_by u.2 ∙ e)) ∙ f in cc
    by false q = q

-- what ends a declared name with what it begins with, and what ends all of them
abbrev Begun : Option Lexed → Type 0
Begun x = Ends x × (sees m.Equal x ≡ false)

abbrev pub Settled : Option Lexed → Type 0
Settled x = Ends x × (sees m.Equal x ≡ false) × (sees m.Comma x ≡ false)

module _ (limits : Limits) (d e : ℕ) (h : (roomy limits).turns + 3 + d < e) where
  abbrev large : Limits
  large = roomy limits

  ready_begun : (x : Named) → Ready Begun [] (next (λ t. begun_by limits d x (sees m.Equal t))) (next (λ t. begun_by large e x (sees m.Equal t)))
  ready_begun x = record { viable = viable_next Begun (λ t. begun_by large e x (sees m.Equal t)) (λ t. begun_by limits d x (sees m.Equal t)) [] finishes (λ t. by (sees m.Equal t)); finishes = finishes }
    where
      finishes : Finishes Begun [] (next (λ t. begun_by large e x (sees m.Equal t)))
      finishes = finishes_next_end Begun (λ t. begun_by large e x (sees m.Equal t)) (λ t. pure (local_name x.0 None, x.1)) (λ t f. ap (begun_by large e x) f.1) (λ t. finishes_pure Begun _)

      by : (b : Bool) → EachPair (Viable Begun) (begun_by limits d x b) (begun_by large e x b)
      by true = viable_bind Begun Ends (initials large e) _ [] (λ rest f. f.0) (initials limits d) _ (ready_initials limits e d h).viable (λ v. viable_pure Begun _) (λ v. finishes_pure Begun _)
      by false = viable_pure Begun _

  ready_one : Ready Begun (token k.Name ∷ []) (one_name limits d) (one_name large e)
  unfolding one_name
  ready_one = ready_bind Begun (λ x. sees m.OpenBracket x ≡ false) (token k.Name ∷ []) [] (declared_name limits) (declared_name large) _ _ (λ rest f. ends_not m.OpenBracket refl (first rest) f.0) (ready_declared limits) ready_begun

  viable_name_more : (list : Names) → Viable Begun (name_more limits d list) (name_more large e list)
  unfolding name_more
  viable_name_more list = (ready_bind Begun Any (mark m.Comma ∷ []) (token k.Name ∷ []) (expect m.Comma) (expect m.Comma) _ _ (λ rest f. tt) (ready_expect Any m.Comma)
      (λ o. ready_last Begun (token k.Name ∷ []) (one_name limits d) (one_name large e) (λ x. (list.0 ++ x.0 ∷ [], x.1)) ready_one)).viable

  pub ready_names : (begin : Place) (is_const : Bool) (x : TypeTree) → Ready Settled (token k.Name ∷ []) (names_rest limits d begin is_const x) (names_rest large e begin is_const x)
  unfolding names_rest
  ready_names begin is_const x = ready_bind Settled Begun (token k.Name ∷ []) [] (one_name limits d) (one_name large e) _ _ (λ rest f. (f.0, f.1)) ready_one
      (λ y. ready_last Settled [] (turns (sees m.Comma) (name_more limits d) limits.turns (y.0 ∷ [], y.1)) (turns (sees m.Comma) (name_more large e) large.turns (y.0 ∷ [], y.1)) (λ list. local_of (span begin list.1) is_const x list.0)
      (ready_turns Settled Begun (sees m.Comma) (name_more limits d) (name_more large e) limits.turns large.turns (y.0 ∷ [], y.1) (omega arith) (λ z c. (c.0, c.1)) (λ z c. c.2) viable_name_more))

  pub ready_variable : Ready Settled (int_word ∷ token k.Name ∷ []) (variable limits d) (variable large e)
  unfolding variable
  ready_variable = ready_bind Settled t.Ends (int_word ∷ []) (token k.Name ∷ []) (types limits d) (types large e) _ _ (λ rest f. (refl, refl, refl)) (ready_types limits large (wider limits) e d (omega (arith, h)))
      (λ x. ready_names x.0.place false x.0)

  pub ready_constant : (begin : Place) → Ready Settled (int_word ∷ token k.Name ∷ []) (constant limits d begin) (constant large e begin)
  unfolding constant
  ready_constant begin = ready_bind Settled t.Ends (int_word ∷ []) (token k.Name ∷ []) (types limits d) (types large e) _ _ (λ rest f. (refl, refl, refl)) (ready_types limits large (wider limits) e d (omega (arith, h)))
      (λ x. ready_names begin true x.0)
