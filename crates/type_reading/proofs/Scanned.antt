-- The scan of generic arguments beside their descent, production by production.
use Rattle.std.proofs.Common.{Bool, true, false, ◌≡◌, ℕ, zero, suc, ◌+◌, ◌≤◌, ◌<◌, List, [], ◌∷◌, length, drop, Option, Some, None, refl, sym, ◌∙◌, ap, subst, if◌then◌else◌, nat_lt, arith}
use Rattle.slang_names.specs.declared.places.Place.{Place}
use Rattle.slang_names.specs.declared.codes.ModuleCode.TheVariants as code
use Rattle.slang_tree.specs.declared.types.Identifier.{Identifier}
use Rattle.slang_tree.specs.declared.types.Resource.{Resource}
use Rattle.slang_tree.specs.declared.types.TypeNode.TheVariants as n
use Rattle.slang_tokens.specs.declared.tokens.Kind.{Kind}
use Rattle.slang_tokens.specs.declared.tokens.Kind.TheVariants as k
use Rattle.slang_tokens.specs.declared.tokens.Mark.TheVariants as m
use Rattle.slang_reading.specs.Lexed.{Lexed}
use Rattle.slang_reading.specs.Reading.{Outcome, Done, Stop, Past, Parser, first, Choice, Leave, Take, pure, turns, ◌>>=◌}
use Rattle.slang_reading.specs.Kinds.{is_mark, sees, span}
use Rattle.slang_reading.proofs.Fine.{Fine}
use Rattle.slang_grammar.specs.Types as t
use Rattle.slang_grammar.specs.Descent.{Limits, fits_in, expect, is_short, named_by, named, name, identifier, termed_by, termed, bracketed}
use Rattle.slang_grammar.specs.TypesDescent.{Type_, Arguments, WordUse, IsBuiltin, IsResource, IsThis, IsOther, use_of, type_argument, begins_type, word_argument, argument_by, argument_of, argument, argument_more, arguments, name_rest_by, name_rest, resource_rest, node, type_word, type_by, type_of, type_name, project_rest, project_by, project, length_rest, length_by, array, type_rest, no_types, types}
use Rattle.slang_grammar.proofs.TypesFree.{fine_arguments, fine_types}
use Rattle.type_reading.specs.declared.steps.Open.{Open}
use Rattle.type_reading.specs.declared.steps.Open.TheVariants.{Many, One}
use Rattle.type_reading.specs.declared.steps.Awaited.TheVariants.{Begins, Item, Inner, Named, Typed, Sized, Opens, Dotted, Bracketed, Closing, Ends, More, Close}
use Rattle.type_reading.specs.declared.steps.Step.TheVariants.{Keep, Push, Pop, Refused}
use Rattle.type_reading.specs.Scanning.{close, ends, sized, typed, word_step, popped, applied, move, scan, erased}
use Rattle.type_reading.proofs.Beside.{Beside, from, behind, alike, beside_bind, BesideChoice, beside_next, beside_fits, beside_expect, beside_turns, Unit_}

-- ---- what takes one token

module _ (ts : List Lexed) (limits : Limits) (s : List Open) where
  beside_name : (at seen : ℕ) → Beside (from ts s Dotted at seen) (from ts s Typed) (name limits ts at seen)
  unfolding name
  beside_name at seen = beside_next ts s Dotted (from ts s Typed) (named limits) at seen go
    where
      by : (tok : Lexed) (kind : Kind) → tok.kind ≡ kind → BesideChoice ts s Dotted (from ts s Typed) at (Some tok) (named_by limits tok kind)
      by tok k.Name q = beside_fits ts s Dotted (from ts s Typed) at (Some tok) (is_short limits tok) code.TooLong (Take (pure (identifier tok)))
          (λ seen1. ap (λ kind. behind ts (move s Dotted kind) (at + 1) seen1) q)
      by tok (k.Word w) q = ap (move s Dotted) q
      by tok (k.Number v) q = ap (move s Dotted) q
      by tok k.String q = ap (move s Dotted) q
      by tok (k.Mark x) q = ap (move s Dotted) q

      go : (x : Option Lexed) → first (drop at ts) ≡ x → BesideChoice ts s Dotted (from ts s Typed) at x (named limits x)
      go (Some tok) e = by tok tok.kind refl
      go None e = tt

  beside_bracketed : (at seen : ℕ) → Beside (from ts s Bracketed at seen) (from ts s Closing) (bracketed limits ts at seen)
  unfolding bracketed
  beside_bracketed at seen = beside_next ts s Bracketed (from ts s Closing) (termed limits) at seen go
    where
      by : (tok : Lexed) (kind : Kind) → tok.kind ≡ kind → BesideChoice ts s Bracketed (from ts s Closing) at (Some tok) (termed_by limits tok kind)
      by tok k.Name q = beside_fits ts s Bracketed (from ts s Closing) at (Some tok) (is_short limits tok) code.TooLong (Take (pure _))
          (λ seen1. ap (λ kind. behind ts (move s Bracketed kind) (at + 1) seen1) q)
      by tok (k.Word w) q = ap (move s Bracketed) q
      by tok (k.Number v) q = λ seen1. ap (λ kind. behind ts (move s Bracketed kind) (at + 1) seen1) q
      by tok k.String q = ap (move s Bracketed) q
      by tok (k.Mark x) q = ap (move s Bracketed) q

      go : (x : Option Lexed) → first (drop at ts) ≡ x → BesideChoice ts s Bracketed (from ts s Closing) at x (termed limits x)
      go (Some tok) e = by tok tok.kind refl
      go None e = tt

-- ---- what follows the name of a type

module _ (ts : List Lexed) (limits : Limits) (d : ℕ) (s : List Open) where
  beside_project : (x : Type_) (at seen : ℕ) → sees m.Dot (first (drop at ts)) ≡ true → Beside (from ts s Typed at seen) (from ts s Typed) (project limits d x ts at seen)
  unfolding project project_rest
  beside_project x at seen q = beside_next ts s Typed (from ts s Typed) _ at seen (λ o e. by o (sees m.Dot o) refl (sym (ap (sees m.Dot) e) ∙ q))
    where
      rest : (seen1 : ℕ) → Beside (from ts s Dotted (at + 1) seen1) (from ts s Typed) (project_rest limits d x ts (at + 1) seen1)
      rest seen1 = beside_bind ts (from ts s Dotted (at + 1) seen1) (from ts s Typed) (from ts s Typed) (name limits) _ (at + 1) seen1 (beside_name ts limits s (at + 1) seen1) (λ id mid seen2. refl)

      by : (o : Option Lexed) (b : Bool) → sees m.Dot o ≡ b → sees m.Dot o ≡ true → BesideChoice ts s Typed (from ts s Typed) at o (project_by limits d x o b)
      by (Some tok) true e u = beside_fits ts s Typed (from ts s Typed) at (Some tok) (fits_in limits x.1 d) code.TooNested (Take (project_rest limits d x))
          (λ seen1. subst (λ v. Beside (behind ts v (at + 1) seen1) (from ts s Typed) (project_rest limits d x ts (at + 1) seen1)) (sym (ap (λ b. applied (if b then Keep Dotted else sized (first s) tok.kind) s) e)) (rest seen1))
      by None true e u = beside_fits ts s Typed (from ts s Typed) at None (fits_in limits x.1 d) code.TooNested (Take (project_rest limits d x)) tt
      by o false e u = absurd (let c = sym e ∙ u in cc)

  beside_projections : (x : Type_) (at seen : ℕ) → Beside (from ts s Typed at seen) (from ts s Sized) (turns (sees m.Dot) (project limits d) limits.turns x ts at seen)
  beside_projections x at seen = beside_turns ts s Typed Sized (sees m.Dot) (project limits d) (λ a from seen1 q. beside_project a from seen1 q)
      (λ at seen q. alike ts s s Typed Sized at seen (λ tok e. ap (λ b. applied (if b then Keep Dotted else sized (first s) tok.kind) s) (sym (ap (sees m.Dot) e) ∙ q))) limits.turns x at seen

  beside_array : (x : Type_) (at seen : ℕ) → Beside (from ts s Sized at seen) (from ts s Ends) (array limits d x ts at seen)
  unfolding array length_rest
  beside_array x at seen = beside_next ts s Sized (from ts s Ends) _ at seen (λ o e. by o e (sees m.OpenBracket o) refl)
    where
      rest : (seen1 : ℕ) → Beside (from ts s Bracketed (at + 1) seen1) (from ts s Ends) (length_rest limits d x ts (at + 1) seen1)
      rest seen1 = beside_bind ts (from ts s Bracketed (at + 1) seen1) (from ts s Closing) (from ts s Ends) (bracketed limits) _ (at + 1) seen1 (beside_bracketed ts limits s (at + 1) seen1)
          (λ l mid seen2. beside_bind ts (from ts s Closing mid seen2) (from ts s Ends) (from ts s Ends) (expect m.CloseBracket) _ mid seen2
          (beside_expect ts s Closing (Keep Ends) m.CloseBracket (λ kind. refl) mid seen2) (λ end to seen3. refl))

      by : (o : Option Lexed) → first (drop at ts) ≡ o → (b : Bool) → sees m.OpenBracket o ≡ b → BesideChoice ts s Sized (from ts s Ends) at o (length_by limits d x o b)
      by (Some tok) e true q = beside_fits ts s Sized (from ts s Ends) at (Some tok) (fits_in limits x.1 d) code.TooNested (Take (length_rest limits d x))
          (λ seen1. subst (λ v. Beside (behind ts v (at + 1) seen1) (from ts s Ends) (length_rest limits d x ts (at + 1) seen1)) (sym (ap (λ b. applied (if b then Keep Bracketed else ends (first s) tok.kind) s) q)) (rest seen1))
      by None e true q = beside_fits ts s Sized (from ts s Ends) at None (fits_in limits x.1 d) code.TooNested (Take (length_rest limits d x)) tt
      by o e false q = λ seen1. alike ts s s Sized Ends at seen1 (λ tok f. ap (λ b. applied (if b then Keep Bracketed else ends (first s) tok.kind) s) (ap (sees m.OpenBracket) (sym f ∙ e) ∙ q))

  beside_rest : (x : Type_) (at seen : ℕ) → Beside (from ts s Typed at seen) (from ts s Ends) (type_rest limits d x ts at seen)
  unfolding type_rest
  beside_rest x at seen = beside_bind ts (from ts s Typed at seen) (from ts s Sized) (from ts s Ends) (turns (sees m.Dot) (project limits d) limits.turns x) (array limits d) at seen
      (beside_projections x at seen) (λ y mid seen1. beside_array y mid seen1)

-- ---- arguments and names

module _ (ts : List Lexed) (limits : Limits) (room : Bool) (d : ℕ) (inner : Parser Type_) (h : (f : Open) (s : List Open) (at seen : ℕ) → Beside (from ts (f ∷ s) Inner at seen) (from ts (f ∷ s) Ends) (inner ts at seen)) where
  beside_type_argument : (f : Open) (s : List Open) (at seen : ℕ) → Beside (from ts (f ∷ s) Inner at seen) (from ts (f ∷ s) Ends) (type_argument limits room d inner ts at seen)
  unfolding type_argument
  beside_type_argument f s at seen = beside_bind ts (from ts (f ∷ s) Inner at seen) (from ts (f ∷ s) Ends) (from ts (f ∷ s) Ends) inner _ at seen (h f s at seen) (λ x mid seen1. refl)

  -- what is no number is awaited as a type
  beside_begins : (f : Open) (s : List Open) (at : ℕ) (tok : Lexed) → first (drop at ts) ≡ Some tok → move (f ∷ s) Item tok.kind ≡ move (f ∷ s) Inner tok.kind →
      BesideChoice ts (f ∷ s) Item (from ts (f ∷ s) Ends) at (Some tok) (begins_type limits room d inner (Some tok))
  beside_begins f s at tok e q = beside_fits ts (f ∷ s) Item (from ts (f ∷ s) Ends) at (Some tok) (nat_lt 0 d) code.TooNested (Leave (type_argument limits room d inner))
      (λ seen1. subst (λ y. Beside y (from ts (f ∷ s) Ends) (type_argument limits room d inner ts at seen1))
      (alike ts (f ∷ s) (f ∷ s) Inner Item at seen1 (λ other o. let p : tok ≡ other = same tok other (sym e ∙ o) in sym (subst (λ (z : Lexed). move (f ∷ s) Item z.kind ≡ move (f ∷ s) Inner z.kind) p q)))
      (beside_type_argument f s at seen1))
    where
      same : (a b : Lexed) → Some a ≡ Some b → a ≡ b
      same a b e = cc

  beside_argument : (f : Open) (s : List Open) (count at seen : ℕ) → Beside (from ts (f ∷ s) Item at seen) (from ts (f ∷ s) Ends) (argument limits room d inner count ts at seen)
  unfolding argument
  beside_argument f s count at seen = beside_next ts (f ∷ s) Item (from ts (f ∷ s) Ends) _ at seen
      (λ x e. beside_fits ts (f ∷ s) Item (from ts (f ∷ s) Ends) at x (fits_in limits count limits.items) code.TooLong (argument_of limits room d inner x) (go x e))
    where
      word : (tok : Lexed) → first (drop at ts) ≡ Some tok → (w : WordUse) → move (f ∷ s) Item tok.kind ≡ move (f ∷ s) Inner tok.kind → move (f ∷ s) Item tok.kind ≡ applied (word_step w) (f ∷ s) →
          BesideChoice ts (f ∷ s) Item (from ts (f ∷ s) Ends) at (Some tok) (word_argument limits room d inner (Some tok) w)
      word tok e (IsBuiltin b) q r = beside_begins f s at tok e q
      word tok e (IsResource b) q r = beside_begins f s at tok e q
      word tok e IsThis q r = beside_begins f s at tok e q
      word tok e IsOther q r = r

      by : (tok : Lexed) → first (drop at ts) ≡ Some tok → (kind : Kind) → tok.kind ≡ kind → BesideChoice ts (f ∷ s) Item (from ts (f ∷ s) Ends) at (Some tok) (argument_by limits room d inner tok kind)
      by tok e (k.Number v) q = λ seen1. ap (λ kind. behind ts (move (f ∷ s) Item kind) (at + 1) seen1) q
      by tok e k.Name q = beside_begins f s at tok e (ap (move (f ∷ s) Item) q ∙ sym (ap (move (f ∷ s) Inner) q))
      by tok e (k.Word w) q = word tok e (use_of w) (ap (move (f ∷ s) Item) q ∙ sym (ap (move (f ∷ s) Inner) q)) (ap (move (f ∷ s) Item) q)
      by tok e k.String q = ap (move (f ∷ s) Item) q
      by tok e (k.Mark x) q = ap (move (f ∷ s) Item) q

      go : (x : Option Lexed) → first (drop at ts) ≡ x → BesideChoice ts (f ∷ s) Item (from ts (f ∷ s) Ends) at x (argument_of limits room d inner x)
      go (Some tok) e = by tok e tok.kind refl
      go None e = tt

  -- behind an argument, with a comma to come
  beside_more : (s : List Open) (list : Arguments) (at seen : ℕ) → sees m.Comma (first (drop at ts)) ≡ true →
      Beside (from ts (Many ∷ s) Ends at seen) (from ts (Many ∷ s) Ends) (argument_more limits room d inner list ts at seen)
  unfolding argument_more
  beside_more s list at seen q = subst (λ y. Beside y (from ts (Many ∷ s) Ends) (argument_more limits room d inner list ts at seen))
      (alike ts (Many ∷ s) (Many ∷ s) More Ends at seen (λ tok e. let c : is_mark m.Comma tok.kind ≡ true = sym (ap (sees m.Comma) e) ∙ q in
      ap (λ b. applied (if b then Keep Item else Refused) (Many ∷ s)) c ∙ sym (ap (λ b. applied (if b then Keep Item else close tok.kind) (Many ∷ s)) c)))
      (beside_bind ts (from ts (Many ∷ s) More at seen) (from ts (Many ∷ s) Item) (from ts (Many ∷ s) Ends) (expect m.Comma) _ at seen
      (beside_expect ts (Many ∷ s) More (Keep Item) m.Comma (λ kind. refl) at seen)
      (λ p mid seen1. beside_bind ts (from ts (Many ∷ s) Item mid seen1) (from ts (Many ∷ s) Ends) (from ts (Many ∷ s) Ends) (argument limits room d inner (length list.0)) _ mid seen1
      (beside_argument Many s (length list.0) mid seen1) (λ x to seen2. refl)))

  beside_list : (s : List Open) (list : Arguments) (at seen : ℕ) →
      Beside (from ts (Many ∷ s) Ends at seen) (from ts (Many ∷ s) Close) (turns (sees m.Comma) (argument_more limits room d inner) limits.turns list ts at seen)
  beside_list s list at seen = beside_turns ts (Many ∷ s) Ends Close (sees m.Comma) (argument_more limits room d inner) (λ a from seen1 q. beside_more s a from seen1 q)
      (λ at seen q. alike ts (Many ∷ s) (Many ∷ s) Ends Close at seen (λ tok e. ap (λ b. applied (if b then Keep Item else close tok.kind) (Many ∷ s)) (sym (ap (sees m.Comma) e) ∙ q)))
      limits.turns list at seen

  pub beside_arguments : (s : List Open) (at seen : ℕ) → Beside (from ts s Begins at seen) (behind ts (popped s)) (arguments limits room d inner ts at seen)
  unfolding arguments
  beside_arguments s at seen =
      beside_bind ts (from ts s Begins at seen) (from ts (Many ∷ s) Item) (behind ts (popped s)) (expect m.Less) _ at seen (beside_expect ts s Begins (Push Many Item) m.Less (λ kind. refl) at seen)
      (λ p mid seen1. beside_bind ts (from ts (Many ∷ s) Item mid seen1) (from ts (Many ∷ s) Ends) (behind ts (popped s)) (argument limits room d inner 0) _ mid seen1 (beside_argument Many s 0 mid seen1)
      (λ x mid2 seen2. beside_bind ts (from ts (Many ∷ s) Ends mid2 seen2) (from ts (Many ∷ s) Close) (behind ts (popped s)) (turns (sees m.Comma) (argument_more limits room d inner) limits.turns (x.0 ∷ [], x.1)) _ mid2 seen2
      (beside_list s (x.0 ∷ [], x.1) mid2 seen2)
      (λ list mid3 seen3. beside_bind ts (from ts (Many ∷ s) Close mid3 seen3) (behind ts (popped s)) (behind ts (popped s)) (expect m.Greater) _ mid3 seen3
      (beside_expect ts (Many ∷ s) Close Pop m.Greater (λ kind. refl) mid3 seen3) (λ end to seen4. refl))))

  beside_name_rest : (f : Open) (s : List Open) (id : Identifier) (at seen : ℕ) → Beside (from ts (f ∷ s) Named at seen) (from ts (f ∷ s) Typed) (name_rest limits room d inner id ts at seen)
  unfolding name_rest
  beside_name_rest f s id at seen = beside_next ts (f ∷ s) Named (from ts (f ∷ s) Typed) _ at seen (λ o e. by o e (sees m.Less o) refl)
    where
      by : (o : Option Lexed) → first (drop at ts) ≡ o → (b : Bool) → sees m.Less o ≡ b → BesideChoice ts (f ∷ s) Named (from ts (f ∷ s) Typed) at o (name_rest_by limits room d inner id b)
      by o e true q = λ seen1. subst (λ y. Beside {A = Type_} y (from ts (f ∷ s) Typed) ((arguments limits room d inner >>= (λ a. pure (t.typed (span id.place a.1) (n.Named id a.0.0), a.0.1 + 1))) ts at seen1))
          (alike ts (f ∷ s) (f ∷ s) Begins Named at seen1 (λ tok r. let c : is_mark m.Less tok.kind ≡ true = ap (sees m.Less) (sym r ∙ e) ∙ q in
          ap (λ b. applied (if b then Push Many Item else Refused) (f ∷ s)) c ∙ sym (ap (λ b. applied (if b then Push Many Item else typed (Some f) tok.kind) (f ∷ s)) c)))
          (beside_bind ts (from ts (f ∷ s) Begins at seen1) (from ts (f ∷ s) Typed) (from ts (f ∷ s) Typed) (arguments limits room d inner) _ at seen1 (beside_arguments (f ∷ s) at seen1) (λ a to seen2. refl))
      by o e false q = λ seen1. alike ts (f ∷ s) (f ∷ s) Named Typed at seen1 (λ tok r.
          ap (λ b. applied (if b then Push Many Item else typed (Some f) tok.kind) (f ∷ s)) (ap (sees m.Less) (sym r ∙ e) ∙ q))

  beside_resource_rest : (f : Open) (s : List Open) (begin : Place) (r : Resource) (at seen : ℕ) →
      Beside (from ts (f ∷ s) Opens at seen) (from ts (f ∷ s) Typed) (resource_rest limits room d inner begin r ts at seen)
  unfolding resource_rest
  beside_resource_rest f s begin r at seen =
      beside_bind ts (from ts (f ∷ s) Opens at seen) (from ts (One ∷ f ∷ s) Inner) (from ts (f ∷ s) Typed) (expect m.Less) _ at seen (beside_expect ts (f ∷ s) Opens (Push One Inner) m.Less (λ kind. refl) at seen)
      (λ p mid seen1. beside_bind ts (from ts (One ∷ f ∷ s) Inner mid seen1) (from ts (One ∷ f ∷ s) Ends) (from ts (f ∷ s) Typed) inner _ mid seen1 (h One (f ∷ s) mid seen1)
      (λ x mid2 seen2. beside_bind ts (from ts (One ∷ f ∷ s) Ends mid2 seen2) (from ts (f ∷ s) Typed) (from ts (f ∷ s) Typed) (expect m.Greater) _ mid2 seen2
      (beside_expect ts (One ∷ f ∷ s) Ends Pop m.Greater (λ kind. refl) mid2 seen2) (λ end to seen3. refl)))

  beside_type_name : (f : Open) (s : List Open) (at seen : ℕ) → Beside (from ts (f ∷ s) Inner at seen) (from ts (f ∷ s) Typed) (type_name limits room d inner ts at seen)
  unfolding type_name
  beside_type_name f s at seen = beside_next ts (f ∷ s) Inner (from ts (f ∷ s) Typed) (type_of limits room d inner) at seen (λ x e. go x)
    where
      node_of : (tok : Lexed) (c : Choice Type_) → BesideChoice ts (f ∷ s) Inner (from ts (f ∷ s) Typed) at (Some tok) c → BesideChoice ts (f ∷ s) Inner (from ts (f ∷ s) Typed) at (Some tok) (node limits room d inner tok c)
      node_of tok c p = beside_fits ts (f ∷ s) Inner (from ts (f ∷ s) Typed) at (Some tok) room code.TooNested c p

      word : (tok : Lexed) (w : WordUse) → move (f ∷ s) Inner tok.kind ≡ applied (word_step w) (f ∷ s) → BesideChoice ts (f ∷ s) Inner (from ts (f ∷ s) Typed) at (Some tok) (type_word limits room d inner tok w)
      word tok (IsBuiltin b) q = node_of tok (Take (pure (t.typed tok.place (n.Builtin b), 1))) (λ seen1. ap (λ v. behind ts v (at + 1) seen1) q)
      word tok (IsResource r) q = node_of tok (Take (resource_rest limits room d inner tok.place r))
          (λ seen1. subst (λ v. Beside (behind ts v (at + 1) seen1) (from ts (f ∷ s) Typed) (resource_rest limits room d inner tok.place r ts (at + 1) seen1)) (sym q) (beside_resource_rest f s tok.place r (at + 1) seen1))
      word tok IsThis q = node_of tok (Take (pure (t.typed tok.place n.ThisType, 1))) (λ seen1. ap (λ v. behind ts v (at + 1) seen1) q)
      word tok IsOther q = q

      by : (tok : Lexed) (kind : Kind) → tok.kind ≡ kind → BesideChoice ts (f ∷ s) Inner (from ts (f ∷ s) Typed) at (Some tok) (type_by limits room d inner tok kind)
      by tok k.Name q = beside_fits ts (f ∷ s) Inner (from ts (f ∷ s) Typed) at (Some tok) (is_short limits tok) code.TooLong (node limits room d inner tok (Take (name_rest limits room d inner (identifier tok))))
          (node_of tok (Take (name_rest limits room d inner (identifier tok)))
          (λ seen1. subst (λ kind. Beside (behind ts (move (f ∷ s) Inner kind) (at + 1) seen1) (from ts (f ∷ s) Typed) (name_rest limits room d inner (identifier tok) ts (at + 1) seen1)) (sym q)
          (beside_name_rest f s (identifier tok) (at + 1) seen1)))
      by tok (k.Word w) q = word tok (use_of w) (ap (move (f ∷ s) Inner) q)
      by tok (k.Number v) q = ap (move (f ∷ s) Inner) q
      by tok k.String q = ap (move (f ∷ s) Inner) q
      by tok (k.Mark x) q = ap (move (f ∷ s) Inner) q

      go : (x : Option Lexed) → BesideChoice ts (f ∷ s) Inner (from ts (f ∷ s) Typed) at x (type_of limits room d inner x)
      go (Some tok) = by tok tok.kind refl
      go None = tt

pub beside_types : (ts : List Lexed) (limits : Limits) (d : ℕ) (f : Open) (s : List Open) (at seen : ℕ) → Beside (from ts (f ∷ s) Inner at seen) (from ts (f ∷ s) Ends) (types limits d ts at seen)
unfolding types
beside_types ts limits zero f s at seen =
    beside_bind ts (from ts (f ∷ s) Inner at seen) (from ts (f ∷ s) Typed) (from ts (f ∷ s) Ends) (type_name limits false zero no_types) (type_rest limits zero) at seen
    (beside_type_name ts limits false zero no_types (λ f s at seen. tt) f s at seen) (λ x mid seen1. beside_rest ts limits zero (f ∷ s) x mid seen1)
beside_types ts limits (suc d) f s at seen =
    beside_bind ts (from ts (f ∷ s) Inner at seen) (from ts (f ∷ s) Typed) (from ts (f ∷ s) Ends) (type_name limits true d (types limits d)) (type_rest limits (suc d)) at seen
    (beside_type_name ts limits true d (types limits d) (λ f s at seen. beside_types ts limits d f s at seen) f s at seen) (λ x mid seen1. beside_rest ts limits (suc d) (f ∷ s) x mid seen1)

-- where no limit is passed, the two outcomes are one
same_end : {A : Type 0} (P : A → ℕ → Type 0) (x : Outcome Unit_) (o : Outcome A) → Beside x (λ at seen. Done tt at seen) o → Fine P o → erased o ≡ x
same_end P x (Done a at seen) h f = sym h
same_end P x (Stop seen) h f = sym h
same_end P x (Past code place seen) h f = absurd f

pub arguments_scanned : (ts : List Lexed) (limits : Limits) (at seen : ℕ) → limits.free ≡ true → length ts ≤ limits.turns →
    erased (arguments limits true limits.turns (types limits limits.turns) ts at seen) ≡ scan (drop at ts) [] Begins at seen
arguments_scanned ts limits at seen free long =
    same_end (λ (a : Arguments × Place) (to : ℕ). at < to) (from ts [] Begins at seen) (arguments limits true limits.turns (types limits limits.turns) ts at seen)
    (beside_arguments ts limits true limits.turns (types limits limits.turns) (beside_types ts limits limits.turns) [] at seen)
    (fine_arguments ts limits free true limits.turns (types limits limits.turns) at (λ from seen1 b. fine_types ts limits free limits.turns from seen1 (omega (arith, long)) (omega (arith, long)))
    (omega (arith, long)) (omega (arith, long)) at seen (omega arith))
