-- Programs that are alike up to the names of their functions and types do the same.
use Rattle.std.proofs.Common.{◌≡◌, ℕ, zero, suc, Bool, true, false, not, ◌&&◌, ◌||◌, List, [], ◌∷◌, ◌++◌, length, Option, Some, None, refl, ap, ◌∙◌}
use Rattle.std.specs.Prelude.{map, nat_eq}
use Rattle.behavior.specs.Values.{Value, Truth, Word, Whole, NoMore, Found, part}
use Rattle.behavior.specs.Meanings.{Stuck, Ids}
use Rattle.behavior.specs.Running.{World, Result, Flow, Next, Returned, outcome}
use Rattle.shader_kernel.specs.Kernel.{Constant, Number, Logical, Null, Binary, Node, One, Two, Part, Pick, Spread, Repeat, Fill, Root, Expr, Known, Pure, Read, Element, Short, Choose, Call, Exprs, NoExpr, More, Numbers, NoNumber, Index, Place, At, Givens, NoGiven, Lent, Stat, Skip, Seq, Put, Change, If, When, Loop, Return, Give, Break, Continue, Run, Parameter, Function}
use Rattle.shader_kernel.specs.Kernel as kernel
use Rattle.spirv_words.specs.Machine.{repeated}
use Rattle.shader_kernel.specs.Operators.{unary_way, binary_way, at_path, picked, spread, values_then, node_way, zeros}
use Rattle.shader_kernel.specs.Actions.{Action, gives, ends, and_with, either, with_way, with_truth, with_some, Numbered, with_numbers, pay, and_next, turns, back_at}
use Rattle.shader_kernel.specs.Meaning.{Fixed, Argument, Finals, Taken, Kept, Borrowed, argument_of, Calls, read_place, write_place, give_back, constant_value, converted, call_means, expr_means, exprs_mean, numbers_mean, givens_mean, stat_means, is_lent, same, fit, value_of, finals, Program, fixed, body_means, function_means, calls_at, input_values, entry_means, means}
use Rattle.shader_kernel.specs.Alike.{AlikeConstants, AlikeTypes, AlikeNodes, AlikeExpr, AlikeExprs, AlikeNumbers, AlikeGivens, AlikeStats, AlikeParameters, AlikeFunctions, AlikeIfThere, AlikePrograms}

-- functions that give the same are the same
all_same : {A B : Type 0} (f g : A → B) → ((a : A) → f a ≡ g a) → f ≡ g
all_same f g h = λ i. λ a. h a i

with_same : {A B : Type 0} (m m' : Action A) (go go' : A → Action B) → m ≡ m' → ((a : A) → go a ≡ go' a) → and_with m go ≡ and_with m' go'
with_same m m' go go' e h = ap (λ x. and_with x go) e ∙ ap (λ x. and_with m' x) (all_same go go' h)

way_same : {A : Type 0} (way way' : _) (go go' : Value → Action A) → way ≡ way' → ((v : Value) → go v ≡ go' v) → with_way way go ≡ with_way way' go'
way_same way way' go go' e h = ap (λ x. with_way x go) e ∙ ap (λ x. with_way way' x) (all_same go go' h)

truth_same : {A : Type 0} (v : Value) (go go' : Bool → Action A) → ((b : Bool) → go b ≡ go' b) → with_truth v go ≡ with_truth v go'
truth_same v go go' h = ap (λ x. with_truth v x) (all_same go go' h)

either_same : {A : Type 0} (t : Bool) (a a' b b' : Action A) → a ≡ a' → b ≡ b' → either t a b ≡ either t a' b'
either_same t a a' b b' e f = ap (λ x. either t x b) e ∙ ap (λ x. either t a' x) f

next_same : (a a' b b' : Action Flow) → a ≡ a' → b ≡ b' → and_next a b ≡ and_next a' b'
next_same a a' b b' e f = ap (λ x. and_next x b) e ∙ ap (λ x. and_next a' x) f

module _ {C D T U : Type 0} (AreCallees : C → D → Type 0) (AreTypes : T → U → Type 0) where
  module _ (zero_of : T → Value) (zero_of' : U → Value) (zero_same : (t : T) (u : U) → AreTypes t u → zero_of t ≡ zero_of' u) where
    constants_same : (c : Constant T) (c' : Constant U) → AlikeConstants AreCallees AreTypes c c' → constant_value zero_of c ≡ constant_value zero_of' c'
    constants_same (Number s n) (Number s' n') h = ap Word h.1
    constants_same (Logical b) (Logical b') h = ap Truth h
    constants_same (Null t) (Null t') h = zero_same t t' h
    constants_same c c' h = absurd h

    zeros_same : (ts : List T) (us : List U) → AlikeTypes AreCallees AreTypes ts us → zeros zero_of ts ≡ zeros zero_of' us
    zeros_same [] [] h = refl
    zeros_same (t ∷ ts) (u ∷ us) h = ap (λ x. x ∷ zeros zero_of ts) (zero_same t u h.0) ∙ ap (λ x. zero_of' u ∷ x) (zeros_same ts us h.1)
    zeros_same ts us h = absurd h

    nodes_same : (x : Node T) (y : Node U) (vs : List Value) → AlikeNodes AreCallees AreTypes x y → node_way zero_of x vs ≡ node_way zero_of' y vs
    nodes_same (One u) (One u') [] h = refl
    nodes_same (One u) (One u') (v ∷ []) h = ap (λ x. unary_way x v) h
    nodes_same (One u) (One u') (v ∷ w ∷ vs) h = refl
    nodes_same (Two b) (Two b') [] h = refl
    nodes_same (Two b) (Two b') (v ∷ []) h = refl
    nodes_same (Two b) (Two b') (v ∷ w ∷ []) h = ap (λ x. binary_way x v w) h
    nodes_same (Two b) (Two b') (v ∷ w ∷ x ∷ vs) h = refl
    nodes_same (Part n) (Part n') [] h = refl
    nodes_same (Part n) (Part n') (v ∷ []) h = ap (λ x. at_path v (x ∷ [])) h
    nodes_same (Part n) (Part n') (v ∷ w ∷ vs) h = refl
    nodes_same (Pick ns) (Pick ns') [] h = refl
    nodes_same (Pick ns) (Pick ns') (v ∷ []) h = ap (λ x. picked v x (Found (Whole NoMore))) h
    nodes_same (Pick ns) (Pick ns') (v ∷ w ∷ vs) h = refl
    nodes_same (Spread ns) (Spread ns') vs h = ap (λ x. spread x vs) h
    nodes_same (Repeat n) (Repeat n') [] h = refl
    nodes_same (Repeat n) (Repeat n') (v ∷ []) h = ap (λ x. Found (Whole (repeated x v))) h
    nodes_same (Repeat n) (Repeat n') (v ∷ w ∷ vs) h = refl
    nodes_same (Fill ts) (Fill us) vs h = ap (λ x. Found (Whole (values_then vs (values_then x NoMore)))) (zeros_same ts us h)
    nodes_same x y vs h = absurd h

    module _ (s : Fixed) where
      reads_same : (root root' : Root) (ns : List Numbered) (t : T) (u : U) → root ≡ root' → AreTypes t u → read_place s root ns (zero_of t) ≡ read_place s root' ns (zero_of' u)
      reads_same root root' ns t u e h = ap (λ x. read_place s x ns (zero_of t)) e ∙ ap (λ x. read_place s root' ns x) (zero_same t u h)

      writes_same : (root root' : Root) (ns : List Numbered) (t : T) (u : U) (v : Value) → root ≡ root' → AreTypes t u → write_place s root ns (zero_of t) v ≡ write_place s root' ns (zero_of' u) v
      writes_same root root' ns t u v e h = ap (λ x. write_place s x ns (zero_of t) v) e ∙ ap (λ x. write_place s root' ns x v) (zero_same t u h)

      borrowed_same : (v v' : Value) (root root' : Root) (ns : List Numbered) (t : T) (u : U) (ts : List Taken) → v ≡ v' → root ≡ root' → AreTypes t u
          → gives (Borrowed v root ns (zero_of t) ∷ ts) ≡ gives (Borrowed v' root' ns (zero_of' u) ∷ ts)
      borrowed_same v v' root root' ns t u ts d e h =
          ap (λ x. gives (Borrowed x root ns (zero_of t) ∷ ts)) d
          ∙ (ap (λ x. gives (Borrowed v' x ns (zero_of t) ∷ ts)) e ∙ ap (λ x. gives (Borrowed v' root' ns x ∷ ts)) (zero_same t u h))

      module _ (calls : Calls C) (calls' : Calls D) (sound : (c : C) (d : D) → AreCallees c d → (wanted : Bool) (arguments : List Argument) → calls c wanted arguments ≡ calls' d wanted arguments) where
        call_same : (c : C) (d : D) (wanted : Bool) (taken : List Taken) → AreCallees c d → call_means s zero_of calls c wanted taken ≡ call_means s zero_of' calls' d wanted taken
        call_same c d wanted taken h =
            ap (λ (x : World → Result Finals). pay (and_with (λ l w. back_at (x w) l) (λ f. and_with (give_back s taken f.parameters) (λ done. gives f)))) (sound c d h wanted (map argument_of taken))

        mutual
          exprs_alike : (e : Expr C T) (e' : Expr D U) → AlikeExpr AreCallees AreTypes e e' → expr_means s zero_of calls e ≡ expr_means s zero_of' calls' e'
          exprs_alike (Known c) (Known c') h = ap (λ v. gives v) (constants_same c c' h)
          exprs_alike (Pure node of parts) (Pure node' of' parts') h =
              with_same (exprs_mean s zero_of calls parts) (exprs_mean s zero_of' calls' parts') (λ vs. with_way (node_way zero_of node vs) gives) (λ vs. with_way (node_way zero_of' node' vs) gives)
              (lists_alike parts parts' h.2) (λ vs. ap (λ x. with_way x gives) (nodes_same node node' vs h.0))
          exprs_alike (Read (At root numbers of)) (Read (At root' numbers' of')) h =
              with_same (numbers_mean s zero_of calls numbers) (numbers_mean s zero_of' calls' numbers') (λ ns. read_place s root ns (zero_of of)) (λ ns. read_place s root' ns (zero_of' of'))
              (numbers_alike numbers numbers' h.1) (λ ns. reads_same root root' ns of of' h.0 h.2)
          exprs_alike (Element of v signed i) (Element of' v' signed' i') h =
              let at : Bool → Value → Value → Action Value = λ x v n. with_numbers (record { signed = x; value = n } ∷ []) (λ ns. with_way (part v ns) gives) in
              with_same (expr_means s zero_of calls v) (expr_means s zero_of' calls' v') (λ x. and_with (expr_means s zero_of calls i) (at signed x)) (λ x. and_with (expr_means s zero_of' calls' i') (at signed' x))
              (exprs_alike v v' h.2) (λ x.
              with_same (expr_means s zero_of calls i) (expr_means s zero_of' calls' i') (at signed x) (at signed' x) (exprs_alike i i' h.3) (λ n. ap (λ y. at y x n) h.0))
          exprs_alike (Short true a b) (Short true a' b') h =
              with_same (expr_means s zero_of calls a) (expr_means s zero_of' calls' a') (λ v. with_truth v (λ t. either t (expr_means s zero_of calls b) (gives v))) (λ v. with_truth v (λ t. either t (expr_means s zero_of' calls' b') (gives v)))
              (exprs_alike a a' h.0) (λ v. truth_same v (λ t. either t (expr_means s zero_of calls b) (gives v)) (λ t. either t (expr_means s zero_of' calls' b') (gives v)) (λ t.
              either_same t (expr_means s zero_of calls b) (expr_means s zero_of' calls' b') (gives v) (gives v) (exprs_alike b b' h.1) refl))
          exprs_alike (Short false a b) (Short false a' b') h =
              with_same (expr_means s zero_of calls a) (expr_means s zero_of' calls' a') (λ v. with_truth v (λ t. either t (gives v) (expr_means s zero_of calls b))) (λ v. with_truth v (λ t. either t (gives v) (expr_means s zero_of' calls' b')))
              (exprs_alike a a' h.0) (λ v. truth_same v (λ t. either t (gives v) (expr_means s zero_of calls b)) (λ t. either t (gives v) (expr_means s zero_of' calls' b')) (λ t.
              either_same t (gives v) (gives v) (expr_means s zero_of calls b) (expr_means s zero_of' calls' b') refl (exprs_alike b b' h.1)))
          exprs_alike (Choose of test a b) (Choose of' test' a' b') h =
              with_same (expr_means s zero_of calls test) (expr_means s zero_of' calls' test') (λ v. with_truth v (λ t. either t (expr_means s zero_of calls a) (expr_means s zero_of calls b))) (λ v. with_truth v (λ t. either t (expr_means s zero_of' calls' a') (expr_means s zero_of' calls' b')))
              (exprs_alike test test' h.1) (λ v. truth_same v (λ t. either t (expr_means s zero_of calls a) (expr_means s zero_of calls b)) (λ t. either t (expr_means s zero_of' calls' a') (expr_means s zero_of' calls' b')) (λ t.
              either_same t (expr_means s zero_of calls a) (expr_means s zero_of' calls' a') (expr_means s zero_of calls b) (expr_means s zero_of' calls' b') (exprs_alike a a' h.2) (exprs_alike b b' h.3)))
          exprs_alike (Call c of gs) (Call c' of' gs') h =
              let go : Finals → Action Value = λ f. with_some f.value gives in
              with_same (givens_mean s zero_of calls gs) (givens_mean s zero_of' calls' gs') (λ taken. and_with (call_means s zero_of calls c true taken) go) (λ taken. and_with (call_means s zero_of' calls' c' true taken) go)
              (givens_alike gs gs' h.2) (λ taken. ap (λ x. and_with x go) (call_same c c' true taken h.0))
          exprs_alike e e' h = absurd h

          lists_alike : (es : Exprs C T) (es' : Exprs D U) → AlikeExprs AreCallees AreTypes es es' → exprs_mean s zero_of calls es ≡ exprs_mean s zero_of' calls' es'
          lists_alike NoExpr NoExpr h = refl
          lists_alike (More e es) (More e' es') h =
              with_same (expr_means s zero_of calls e) (expr_means s zero_of' calls' e') (λ v. and_with (exprs_mean s zero_of calls es) (λ vs. gives (v ∷ vs))) (λ v. and_with (exprs_mean s zero_of' calls' es') (λ vs. gives (v ∷ vs)))
              (exprs_alike e e' h.0) (λ v. ap (λ x. and_with x (λ vs. gives (v ∷ vs))) (lists_alike es es' h.1))
          lists_alike es es' h = absurd h

          numbers_alike : (ns : Numbers C T) (ns' : Numbers D U) → AlikeNumbers AreCallees AreTypes ns ns' → numbers_mean s zero_of calls ns ≡ numbers_mean s zero_of' calls' ns'
          numbers_alike NoNumber NoNumber h = refl
          numbers_alike (Index signed e rest) (Index signed' e' rest') h =
              let put : Bool → Value → List Numbered → Action (List Numbered) = λ x v ns. gives (record { signed = x; value = v } ∷ ns) in
              with_same (expr_means s zero_of calls e) (expr_means s zero_of' calls' e') (λ v. and_with (numbers_mean s zero_of calls rest) (put signed v)) (λ v. and_with (numbers_mean s zero_of' calls' rest') (put signed' v))
              (exprs_alike e e' h.1) (λ v. ap (λ x. and_with x (put signed v)) (numbers_alike rest rest' h.2) ∙ ap (λ x. and_with (numbers_mean s zero_of' calls' rest') (put x v)) h.0)
          numbers_alike ns ns' h = absurd h

          givens_alike : (gs : Givens C T) (gs' : Givens D U) → AlikeGivens AreCallees AreTypes gs gs' → givens_mean s zero_of calls gs ≡ givens_mean s zero_of' calls' gs'
          givens_alike NoGiven NoGiven h = refl
          givens_alike (kernel.Value e gs) (kernel.Value e' gs') h =
              with_same (expr_means s zero_of calls e) (expr_means s zero_of' calls' e') (λ v. and_with (givens_mean s zero_of calls gs) (λ ts. gives (Kept v ∷ ts))) (λ v. and_with (givens_mean s zero_of' calls' gs') (λ ts. gives (Kept v ∷ ts)))
              (exprs_alike e e' h.0) (λ v. ap (λ x. and_with x (λ ts. gives (Kept v ∷ ts))) (givens_alike gs gs' h.1))
          givens_alike (Lent true (At root numbers of) gs) (Lent true (At root' numbers' of') gs') h =
              let put : List Numbered → Value → List Taken → Action (List Taken) = λ ns v ts. gives (Borrowed v root ns (zero_of of) ∷ ts) in
              let put' : List Numbered → Value → List Taken → Action (List Taken) = λ ns v ts. gives (Borrowed v root' ns (zero_of' of') ∷ ts) in
              with_same (numbers_mean s zero_of calls numbers) (numbers_mean s zero_of' calls' numbers')
              (λ ns. and_with (read_place s root ns (zero_of of)) (λ v. and_with (givens_mean s zero_of calls gs) (put ns v)))
              (λ ns. and_with (read_place s root' ns (zero_of' of')) (λ v. and_with (givens_mean s zero_of' calls' gs') (put' ns v)))
              (numbers_alike numbers numbers' h.0.1) (λ ns.
              with_same (read_place s root ns (zero_of of)) (read_place s root' ns (zero_of' of')) (λ v. and_with (givens_mean s zero_of calls gs) (put ns v)) (λ v. and_with (givens_mean s zero_of' calls' gs') (put' ns v))
              (reads_same root root' ns of of' h.0.0 h.0.2) (λ v.
              with_same (givens_mean s zero_of calls gs) (givens_mean s zero_of' calls' gs') (put ns v) (put' ns v) (givens_alike gs gs' h.1) (λ ts.
              borrowed_same v v root root' ns of of' ts refl h.0.0 h.0.2)))
          givens_alike (Lent false (At root numbers of) gs) (Lent false (At root' numbers' of') gs') h =
              let put : List Numbered → List Taken → Action (List Taken) = λ ns ts. gives (Borrowed (zero_of of) root ns (zero_of of) ∷ ts) in
              let put' : List Numbered → List Taken → Action (List Taken) = λ ns ts. gives (Borrowed (zero_of' of') root' ns (zero_of' of') ∷ ts) in
              with_same (numbers_mean s zero_of calls numbers) (numbers_mean s zero_of' calls' numbers')
              (λ ns. and_with (givens_mean s zero_of calls gs) (put ns)) (λ ns. and_with (givens_mean s zero_of' calls' gs') (put' ns))
              (numbers_alike numbers numbers' h.0.1) (λ ns.
              with_same (givens_mean s zero_of calls gs) (givens_mean s zero_of' calls' gs') (put ns) (put' ns) (givens_alike gs gs' h.1) (λ ts.
              borrowed_same (zero_of of) (zero_of' of') root root' ns of of' ts (zero_same of of' h.0.2) h.0.0 h.0.2))
          givens_alike gs gs' h = absurd h

        module _ (d : ℕ) where
          stats_alike : (x : Stat C T) (y : Stat D U) → AlikeStats AreCallees AreTypes x y → stat_means s zero_of calls d x ≡ stat_means s zero_of' calls' d y
          stats_alike Skip Skip h = refl
          stats_alike (Seq a b) (Seq a' b') h = next_same (stat_means s zero_of calls d a) (stat_means s zero_of' calls' d a') (stat_means s zero_of calls d b) (stat_means s zero_of' calls' d b') (stats_alike a a' h.0) (stats_alike b b' h.1)
          stats_alike (Put (At root numbers of) e) (Put (At root' numbers' of') e') h =
              with_same (numbers_mean s zero_of calls numbers) (numbers_mean s zero_of' calls' numbers')
              (λ ns. and_with (expr_means s zero_of calls e) (λ v. write_place s root ns (zero_of of) v)) (λ ns. and_with (expr_means s zero_of' calls' e') (λ v. write_place s root' ns (zero_of' of') v))
              (numbers_alike numbers numbers' h.0.1) (λ ns.
              with_same (expr_means s zero_of calls e) (expr_means s zero_of' calls' e') (λ v. write_place s root ns (zero_of of) v) (λ v. write_place s root' ns (zero_of' of') v) (exprs_alike e e' h.1) (λ v.
              writes_same root root' ns of of' v h.0.0 h.0.2))
          stats_alike (Change b before after (At root numbers of) e) (Change b' before' after' (At root' numbers' of') e') h =
              let store : List Numbered → Value → Action Flow = λ ns v. write_place s root ns (zero_of of) v in
              let store' : List Numbered → Value → Action Flow = λ ns v. write_place s root' ns (zero_of' of') v in
              let put : List Numbered → Value → Value → Action Flow = λ ns x y. with_way (binary_way b x y) (λ z. with_way (converted after z) (store ns)) in
              let put' : List Numbered → Value → Value → Action Flow = λ ns x y. with_way (binary_way b' x y) (λ z. with_way (converted after' z) (store' ns)) in
              with_same (numbers_mean s zero_of calls numbers) (numbers_mean s zero_of' calls' numbers')
              (λ ns. and_with (read_place s root ns (zero_of of)) (λ old. with_way (converted before old) (λ x. and_with (expr_means s zero_of calls e) (put ns x))))
              (λ ns. and_with (read_place s root' ns (zero_of' of')) (λ old. with_way (converted before' old) (λ x. and_with (expr_means s zero_of' calls' e') (put' ns x))))
              (numbers_alike numbers numbers' h.3.1) (λ ns.
              with_same (read_place s root ns (zero_of of)) (read_place s root' ns (zero_of' of'))
              (λ old. with_way (converted before old) (λ x. and_with (expr_means s zero_of calls e) (put ns x)))
              (λ old. with_way (converted before' old) (λ x. and_with (expr_means s zero_of' calls' e') (put' ns x)))
              (reads_same root root' ns of of' h.3.0 h.3.2) (λ old.
              way_same (converted before old) (converted before' old) (λ x. and_with (expr_means s zero_of calls e) (put ns x)) (λ x. and_with (expr_means s zero_of' calls' e') (put' ns x)) (ap (λ k. converted k old) h.1) (λ x.
              with_same (expr_means s zero_of calls e) (expr_means s zero_of' calls' e') (put ns x) (put' ns x) (exprs_alike e e' h.4) (λ y.
              way_same (binary_way b x y) (binary_way b' x y) (λ z. with_way (converted after z) (store ns)) (λ z. with_way (converted after' z) (store' ns)) (ap (λ k. binary_way k x y) h.0) (λ z.
              way_same (converted after z) (converted after' z) (store ns) (store' ns) (ap (λ k. converted k z) h.2) (λ new.
              writes_same root root' ns of of' new h.3.0 h.3.2))))))
          stats_alike (If test a b) (If test' a' b') h =
              with_same (expr_means s zero_of calls test) (expr_means s zero_of' calls' test') (λ v. with_truth v (λ t. either t (stat_means s zero_of calls d a) (stat_means s zero_of calls d b))) (λ v. with_truth v (λ t. either t (stat_means s zero_of' calls' d a') (stat_means s zero_of' calls' d b')))
              (exprs_alike test test' h.0) (λ v. truth_same v (λ t. either t (stat_means s zero_of calls d a) (stat_means s zero_of calls d b)) (λ t. either t (stat_means s zero_of' calls' d a') (stat_means s zero_of' calls' d b')) (λ t.
              either_same t (stat_means s zero_of calls d a) (stat_means s zero_of' calls' d a') (stat_means s zero_of calls d b) (stat_means s zero_of' calls' d b') (stats_alike a a' h.1) (stats_alike b b' h.2)))
          stats_alike (When test a) (When test' a') h =
              with_same (expr_means s zero_of calls test) (expr_means s zero_of' calls' test') (λ v. with_truth v (λ t. either t (stat_means s zero_of calls d a) (gives Next))) (λ v. with_truth v (λ t. either t (stat_means s zero_of' calls' d a') (gives Next)))
              (exprs_alike test test' h.0) (λ v. truth_same v (λ t. either t (stat_means s zero_of calls d a) (gives Next)) (λ t. either t (stat_means s zero_of' calls' d a') (gives Next)) (λ t.
              either_same t (stat_means s zero_of calls d a) (stat_means s zero_of' calls' d a') (gives Next) (gives Next) (stats_alike a a' h.1) refl))
          stats_alike (Loop test step body) (Loop test' step' body') h =
              ap (λ x. turns d x (stat_means s zero_of calls d step) (stat_means s zero_of calls d body)) (exprs_alike test test' h.0)
              ∙ (ap (λ x. turns d (expr_means s zero_of' calls' test') x (stat_means s zero_of calls d body)) (stats_alike step step' h.1)
              ∙ ap (λ x. turns d (expr_means s zero_of' calls' test') (stat_means s zero_of' calls' d step') x) (stats_alike body body' h.2))
          stats_alike Return Return h = refl
          stats_alike (Give e) (Give e') h = ap (λ x. and_with x (λ v. gives (Returned (Some v)))) (exprs_alike e e' h)
          stats_alike Break Break h = refl
          stats_alike Continue Continue h = refl
          stats_alike (Run c gs) (Run c' gs') h =
              let go : Finals → Action Flow = λ f. gives Next in
              with_same (givens_mean s zero_of calls gs) (givens_mean s zero_of' calls' gs') (λ taken. and_with (call_means s zero_of calls c false taken) go) (λ taken. and_with (call_means s zero_of' calls' c' false taken) go)
              (givens_alike gs gs' h.1) (λ taken. ap (λ x. and_with x go) (call_same c c' false taken h.0))
          stats_alike x y h = absurd h

  -- ---- functions and programs

  fits_alike : (ps : List (Parameter T)) (qs : List (Parameter U)) → AlikeParameters AreCallees AreTypes ps qs → (arguments : List Argument) → fit ps arguments ≡ fit qs arguments
  fits_alike [] [] h [] = refl
  fits_alike [] [] h (a ∷ others) = refl
  fits_alike (p ∷ ps) (q ∷ qs) h [] = refl
  fits_alike (p ∷ ps) (q ∷ qs) h (a ∷ others) = ap (λ m. same (is_lent m) a.lent && fit ps others) h.0 ∙ ap (λ x. same (is_lent q.mode) a.lent && x) (fits_alike ps qs h.2 others)
  fits_alike ps qs h arguments = absurd h

  lengths_alike : (ps : List (Parameter T)) (qs : List (Parameter U)) → AlikeParameters AreCallees AreTypes ps qs → length ps ≡ length qs
  lengths_alike [] [] h = refl
  lengths_alike (p ∷ ps) (q ∷ qs) h = ap suc (lengths_alike ps qs h.2)
  lengths_alike ps qs h = absurd h

  module _ (p : Program C T) (q : Program D U) (al : AlikePrograms AreCallees AreTypes p q) (lengths : ℕ → ℕ → ℕ) where
    bodies_alike : (d : ℕ) (calls : Calls C) (calls' : Calls D) → ((c : C) (c' : D) → AreCallees c c' → (wanted : Bool) (arguments : List Argument) → calls c wanted arguments ≡ calls' c' wanted arguments)
        → (f : Function C T) (g : Function D U) → AlikeFunctions AreCallees AreTypes f g → (given : List Value) → body_means p lengths d calls f given ≡ body_means q lengths d calls' g given
    bodies_alike d calls calls' sound f g h given =
        let stats = ap (λ b. stat_means (record { buffers = b; lengths = lengths }) p.zero_of calls d f.body) al.buffers ∙ stats_alike p.zero_of q.zero_of al.zeros (fixed q lengths) calls calls' sound d f.body g.body h.body in
        let locals = zeros_same p.zero_of q.zero_of al.zeros f.locals g.locals h.locals in
        ap (λ (x : Action Flow). λ (l : List Value) (w : World). x (given ++ zeros p.zero_of f.locals) w) stats
        ∙ ap (λ (x : List Value). λ (l : List Value) (w : World). stat_means (fixed q lengths) q.zero_of calls' d g.body (given ++ x) w) locals

    functions_alike : (d : ℕ) (calls : Calls C) (calls' : Calls D) → ((c : C) (c' : D) → AreCallees c c' → (wanted : Bool) (arguments : List Argument) → calls c wanted arguments ≡ calls' c' wanted arguments)
        → (f : Option (Function C T)) (g : Option (Function D U)) → AlikeIfThere AreCallees AreTypes f g → (wanted : Bool) (arguments : List Argument) → function_means p lengths d calls f wanted arguments ≡ function_means q lengths d calls' g wanted arguments
    functions_alike d calls calls' sound None None h wanted arguments = refl
    functions_alike d calls calls' sound (Some f) (Some g) h wanted arguments =
        let given = map value_of arguments in
        ap (λ b. λ (w : World). either (b && (not wanted || f.gives)) (λ l w1. finals f.gives (length f.parameters) (body_means p lengths d calls f given l w1)) (ends Stuck) [] w) (fits_alike f.parameters g.parameters h.parameters arguments)
        ∙ (ap (λ b. λ (w : World). either (fit g.parameters arguments && (not wanted || b)) (λ l w1. finals b (length f.parameters) (body_means p lengths d calls f given l w1)) (ends Stuck) [] w) h.gives
        ∙ (ap (λ n. λ (w : World). either (fit g.parameters arguments && (not wanted || g.gives)) (λ l w1. finals g.gives n (body_means p lengths d calls f given l w1)) (ends Stuck) [] w) (lengths_alike f.parameters g.parameters h.parameters)
        ∙ ap (λ (x : Action Flow). λ (w : World). either (fit g.parameters arguments && (not wanted || g.gives)) (λ l w1. finals g.gives (length g.parameters) (x l w1)) (ends Stuck) [] w) (bodies_alike d calls calls' sound f g h given)))
    functions_alike d calls calls' sound f g h wanted arguments = absurd h

    calls_alike : (d : ℕ) (c : C) (c' : D) → AreCallees c c' → (wanted : Bool) (arguments : List Argument) → calls_at p lengths d c wanted arguments ≡ calls_at q lengths d c' wanted arguments
    calls_alike zero c c' h wanted arguments = refl
    calls_alike (suc d) c c' h wanted arguments =
        functions_alike (suc d) (calls_at p lengths d) (calls_at q lengths d) (calls_alike d) (p.function c) (q.function c') (al.functions c c' h) wanted arguments

    entries_alike : (n : ℕ) (f : Option (Function C T)) (g : Option (Function D U)) → AlikeIfThere AreCallees AreTypes f g → (given : List Value) (w : World) → entry_means p lengths n f given w ≡ entry_means q lengths n g given w
    entries_alike n None None h given w = refl
    entries_alike n (Some f) (Some g) h given w =
        ap (λ m. either (nat_eq m (length given)) (body_means p lengths (suc n) (calls_at p lengths n) f given) (ends Stuck) [] w) (lengths_alike f.parameters g.parameters h.parameters)
        ∙ ap (λ (x : Action Flow). either (nat_eq (length g.parameters) (length given)) x (ends Stuck) [] w)
        (bodies_alike (suc n) (calls_at p lengths n) (calls_at q lengths n) (calls_alike n) f g h given)
    entries_alike n f g h given w = absurd h

  pub means_alike : (p : Program C T) (q : Program D U) → AlikePrograms AreCallees AreTypes p q → (ids : Ids) (lengths : ℕ → ℕ → ℕ) (answers : List ℕ) (n : ℕ) → means p ids lengths answers n ≡ means q ids lengths answers n
  means_alike p q al ids lengths answers n =
      let w : World = record { answers = answers; events = []; clock = n } in
      ap outcome
      (ap (λ inputs. entry_means p lengths n (p.function p.entry) (input_values ids inputs) w) al.inputs
      ∙ entries_alike p q al lengths n (p.function p.entry) (q.function q.entry) (al.functions p.entry q.entry al.entry) (input_values ids q.inputs) w)
