-- Bodies with more to go on.
use Rattle.std.proofs.Common.{ℕ, ◌+◌, ◌/◌, ◌≤◌, Bool, true, false, List, [], ◌∷◌, ◌++◌, Some, None}
use Rattle.std.specs.Prelude.{slice_get, map}
use Rattle.behavior.specs.Values.{Value, Values, Truth, Word, Whole, NoMore, Then, part, put_part}
use Rattle.behavior.specs.Meanings.{Undefined, Stuck}
use Rattle.behavior.specs.Running.{Flow, Next, Broke, Continued, Returned}
use Rattle.spirv_words.specs.Machine.{Nothing, Truths, Words, Repeated, Unbounded, Fields, PointerTo}
use Rattle.spirv_words.specs.Step.{Spot, Byte, Beyond, Nowhere, spot}
use Rattle.shader_kernel.specs.Kernel.{Root, Local, Buffer, Expr, Known, Pure, Read, Element, Short, Choose, Call, Exprs, NoExpr, More, Numbers, NoNumber, Index, Place, At, Givens, NoGiven, Lent, Stat, Skip, Seq, Put, Change, If, When, Loop, Return, Give, Break, Continue, Run, Parameter, Function}
use Rattle.shader_kernel.specs.Kernel as kernel
use Rattle.shader_kernel.specs.Operators.{binary_way, node_way, at_path}
use Rattle.shader_kernel.specs.Actions.{Action, gives, and_with, either, with_way, with_word, with_truth, with_some, set_local, Numbered, with_numbers, ask, tell}
use Rattle.shader_kernel.specs.Meaning.{Bound, Fixed, Argument, Finals, Taken, Kept, Borrowed, argument_of, Calls, at_spot, at_scalar, read_scalar, write_scalar, read_like, read_parts, write_like, write_parts, read_place, write_place, give_back, constant_value, converted, call_with, call_means, expr_means, exprs_mean, numbers_mean, givens_mean, stat_means}
use Rattle.shader_kernel.proofs.Steady.{Steady, gives_steady, ends_steady, with_steady, next_steady, either_steady, way_steady, word_steady, truth_steady, some_steady, local_steady, set_steady, numbers_steady, ask_steady, tell_steady, pay_steady, turns_steady}

module _ (more : List ℕ) (k : ℕ) where
  -- the same with another result put in
  same_with : {A B : Type 0} (m : Action A) (go go' : A → Action B) → Steady more k m m → ((a : A) → Steady more k (go a) (go' a)) → Steady more k (and_with m go) (and_with m go')
  same_with m go go' s t = with_steady more k m m go go' s t

  module _ (s : Fixed) where
    spot_steady : {A : Type 0} (x : Spot) (go : ℕ → Action A) → ((n : ℕ) → Steady more k (go n) (go n)) → Steady more k (at_spot s x go) (at_spot s x go)
    spot_steady (Byte n Nothing) go h = ends_steady more k Stuck
    spot_steady (Byte n Truths) go h = ends_steady more k Stuck
    spot_steady (Byte n (Words signed)) go h = h (n / 4)
    spot_steady (Byte n (Repeated count stride of)) go h = ends_steady more k Stuck
    spot_steady (Byte n (Unbounded stride of)) go h = ends_steady more k Stuck
    spot_steady (Byte n (Fields fs)) go h = ends_steady more k Stuck
    spot_steady (Byte n (PointerTo of)) go h = ends_steady more k Stuck
    spot_steady Beyond go h = ends_steady more k Undefined
    spot_steady Nowhere go h = ends_steady more k Stuck

    scalar_steady : {A : Type 0} (b : ℕ) (numbers : List Numbered) (path : List ℕ) (go : ℕ → ℕ → ℕ → Action A) → ((set binding index : ℕ) → Steady more k (go set binding index) (go set binding index)) → Steady more k (at_scalar s b numbers path go) (at_scalar s b numbers path go)
    scalar_steady b numbers path go h =
        let at : Bound → List ℕ → Action _ = λ x ns. at_spot s (spot (s.lengths x.set x.binding) x.shape (ns ++ path) 0) (λ index. go x.set x.binding index) in
        some_steady more k (slice_get s.buffers b) (λ x. with_numbers numbers (at x)) (λ x. with_numbers numbers (at x)) (λ x.
        numbers_steady more k numbers (at x) (at x) (λ ns.
        spot_steady (spot (s.lengths x.set x.binding) x.shape (ns ++ path) 0) (λ index. go x.set x.binding index) (λ index. h x.set x.binding index)))

    read_scalar_steady : (b : ℕ) (numbers : List Numbered) (path : List ℕ) → Steady more k (read_scalar s b numbers path) (read_scalar s b numbers path)
    read_scalar_steady b numbers path = scalar_steady b numbers path ask (ask_steady more k)

    write_scalar_steady : (b : ℕ) (numbers : List Numbered) (v : Value) (path : List ℕ) → Steady more k (write_scalar s b numbers v path) (write_scalar s b numbers v path)
    write_scalar_steady b numbers v path =
        let go : Value → ℕ → ℕ → ℕ → Action Flow = λ x set binding index. with_word x (λ n. tell set binding index n) in
        way_steady more k (at_path v path) (λ x. at_scalar s b numbers path (go x)) (λ x. at_scalar s b numbers path (go x)) (λ x.
        scalar_steady b numbers path (go x) (λ set binding index.
        word_steady more k x (λ n. tell set binding index n) (λ n. tell set binding index n) (λ n. tell_steady more k set binding index n)))

    mutual
      read_steady : (b : ℕ) (numbers : List Numbered) (like : Value) (path : List ℕ) → Steady more k (read_like s b numbers like path) (read_like s b numbers like path)
      read_steady b numbers (Truth t) path = read_scalar_steady b numbers path
      read_steady b numbers (Word n) path = read_scalar_steady b numbers path
      read_steady b numbers (Whole vs) path =
          same_with (read_parts s b numbers vs 0 path) (λ xs. gives (Whole xs)) (λ xs. gives (Whole xs)) (read_parts_steady b numbers vs 0 path) (λ xs. gives_steady more k (Whole xs))

      read_parts_steady : (b : ℕ) (numbers : List Numbered) (like : Values) (i : ℕ) (path : List ℕ) → Steady more k (read_parts s b numbers like i path) (read_parts s b numbers like i path)
      read_parts_steady b numbers NoMore i path = gives_steady more k NoMore
      read_parts_steady b numbers (Then v vs) i path =
          let go : Value → Action Values = λ x. and_with (read_parts s b numbers vs (i + 1) path) (λ xs. gives (Then x xs)) in
          same_with (read_like s b numbers v (path ++ i ∷ [])) go go (read_steady b numbers v (path ++ i ∷ [])) (λ x.
          same_with (read_parts s b numbers vs (i + 1) path) (λ xs. gives (Then x xs)) (λ xs. gives (Then x xs)) (read_parts_steady b numbers vs (i + 1) path) (λ xs. gives_steady more k (Then x xs)))

    mutual
      write_steady : (b : ℕ) (numbers : List Numbered) (new like : Value) (path : List ℕ) → Steady more k (write_like s b numbers new like path) (write_like s b numbers new like path)
      write_steady b numbers new (Truth t) path = write_scalar_steady b numbers new path
      write_steady b numbers new (Word n) path = write_scalar_steady b numbers new path
      write_steady b numbers new (Whole vs) path = write_parts_steady b numbers new vs 0 path

      write_parts_steady : (b : ℕ) (numbers : List Numbered) (new : Value) (like : Values) (i : ℕ) (path : List ℕ) → Steady more k (write_parts s b numbers new like i path) (write_parts s b numbers new like i path)
      write_parts_steady b numbers new NoMore i path = gives_steady more k Next
      write_parts_steady b numbers new (Then v vs) i path =
          next_steady more k (write_like s b numbers new v (path ++ i ∷ [])) (write_like s b numbers new v (path ++ i ∷ [])) (write_parts s b numbers new vs (i + 1) path) (write_parts s b numbers new vs (i + 1) path)
          (write_steady b numbers new v (path ++ i ∷ [])) (write_parts_steady b numbers new vs (i + 1) path)

    read_place_steady : (root : Root) (numbers : List Numbered) (like : Value) → Steady more k (read_place s root numbers like) (read_place s root numbers like)
    read_place_steady (Local n) numbers like =
        let go : Value → Action Value = λ v. with_numbers numbers (λ ns. with_way (part v ns) gives) in
        local_steady more k n go go (λ v.
        numbers_steady more k numbers (λ ns. with_way (part v ns) gives) (λ ns. with_way (part v ns) gives) (λ ns.
        way_steady more k (part v ns) gives gives (gives_steady more k)))
    read_place_steady (Buffer b) numbers like = read_steady b numbers like []

    write_place_steady : (root : Root) (numbers : List Numbered) (like : Value) (new : Value) → Steady more k (write_place s root numbers like new) (write_place s root numbers like new)
    write_place_steady (Local n) numbers like new =
        let put : Value → List ℕ → Action Flow = λ v ns. with_way (part v ns) (λ old. with_way (put_part v ns new) (λ whole. set_local n whole)) in
        local_steady more k n (λ v. with_numbers numbers (put v)) (λ v. with_numbers numbers (put v)) (λ v.
        numbers_steady more k numbers (put v) (put v) (λ ns.
        way_steady more k (part v ns) (λ old. with_way (put_part v ns new) (λ whole. set_local n whole)) (λ old. with_way (put_part v ns new) (λ whole. set_local n whole)) (λ old.
        way_steady more k (put_part v ns new) (λ whole. set_local n whole) (λ whole. set_local n whole) (λ whole. set_steady more k n whole))))
    write_place_steady (Buffer b) numbers like new = write_steady b numbers new like []

    give_back_steady : (taken : List Taken) (finals : List Value) → Steady more k (give_back s taken finals) (give_back s taken finals)
    give_back_steady [] finals = gives_steady more k Next
    give_back_steady (Kept v ∷ ts) [] = ends_steady more k Stuck
    give_back_steady (Kept v ∷ ts) (x ∷ xs) = give_back_steady ts xs
    give_back_steady (Borrowed v root numbers like ∷ ts) [] = ends_steady more k Stuck
    give_back_steady (Borrowed v root numbers like ∷ ts) (x ∷ xs) =
        next_steady more k (write_place s root numbers like x) (write_place s root numbers like x) (give_back s ts xs) (give_back s ts xs) (write_place_steady root numbers like x) (give_back_steady ts xs)

    module _ {C T : Type 0} (zero_of : T → Value) (calls calls' : Calls C) (sound : (callee : C) (wanted : Bool) (arguments : List Argument) → Steady more k (call_with s zero_of calls callee wanted arguments) (call_with s zero_of calls' callee wanted arguments)) where
      call_steady : (callee : C) (wanted : Bool) (taken : List Taken) → Steady more k (call_means s zero_of calls callee wanted taken) (call_means s zero_of calls' callee wanted taken)
      call_steady callee wanted taken =
          let after : Finals → Action Finals = λ f. and_with (give_back s taken f.parameters) (λ done. gives f) in
          pay_steady more k (and_with (call_with s zero_of calls callee wanted (map argument_of taken)) after) (and_with (call_with s zero_of calls' callee wanted (map argument_of taken)) after)
          (with_steady more k (call_with s zero_of calls callee wanted (map argument_of taken)) (call_with s zero_of calls' callee wanted (map argument_of taken)) after after (sound callee wanted (map argument_of taken)) (λ f.
          same_with (give_back s taken f.parameters) (λ done. gives f) (λ done. gives f) (give_back_steady taken f.parameters) (λ done. gives_steady more k f)))

      mutual
        expr_steady : (e : Expr C T) → Steady more k (expr_means s zero_of calls e) (expr_means s zero_of calls' e)
        expr_steady (Known c) = gives_steady more k (constant_value zero_of c)
        expr_steady (Pure node of parts) =
            let go : List Value → Action Value = λ vs. with_way (node_way zero_of node vs) gives in
            with_steady more k (exprs_mean s zero_of calls parts) (exprs_mean s zero_of calls' parts) go go (exprs_steady parts) (λ vs.
            way_steady more k (node_way zero_of node vs) gives gives (gives_steady more k))
        expr_steady (Read (At root numbers of)) =
            with_steady more k (numbers_mean s zero_of calls numbers) (numbers_mean s zero_of calls' numbers) (λ ns. read_place s root ns (zero_of of)) (λ ns. read_place s root ns (zero_of of)) (numbers_means_steady numbers) (λ ns. read_place_steady root ns (zero_of of))
        expr_steady (Element of value signed index) =
            let at : Value → Value → Action Value = λ v i. with_numbers (record { signed = signed; value = i } ∷ []) (λ ns. with_way (part v ns) gives) in
            with_steady more k (expr_means s zero_of calls value) (expr_means s zero_of calls' value) (λ v. and_with (expr_means s zero_of calls index) (at v)) (λ v. and_with (expr_means s zero_of calls' index) (at v)) (expr_steady value) (λ v.
            with_steady more k (expr_means s zero_of calls index) (expr_means s zero_of calls' index) (at v) (at v) (expr_steady index) (λ i.
            numbers_steady more k (record { signed = signed; value = i } ∷ []) (λ ns. with_way (part v ns) gives) (λ ns. with_way (part v ns) gives) (λ ns.
            way_steady more k (part v ns) gives gives (gives_steady more k))))
        expr_steady (Short true a b) =
            with_steady more k (expr_means s zero_of calls a) (expr_means s zero_of calls' a) (λ v. with_truth v (λ t. either t (expr_means s zero_of calls b) (gives v))) (λ v. with_truth v (λ t. either t (expr_means s zero_of calls' b) (gives v))) (expr_steady a) (λ v.
            truth_steady more k v (λ t. either t (expr_means s zero_of calls b) (gives v)) (λ t. either t (expr_means s zero_of calls' b) (gives v)) (λ t.
            either_steady more k t (expr_means s zero_of calls b) (expr_means s zero_of calls' b) (gives v) (gives v) (expr_steady b) (gives_steady more k v)))
        expr_steady (Short false a b) =
            with_steady more k (expr_means s zero_of calls a) (expr_means s zero_of calls' a) (λ v. with_truth v (λ t. either t (gives v) (expr_means s zero_of calls b))) (λ v. with_truth v (λ t. either t (gives v) (expr_means s zero_of calls' b))) (expr_steady a) (λ v.
            truth_steady more k v (λ t. either t (gives v) (expr_means s zero_of calls b)) (λ t. either t (gives v) (expr_means s zero_of calls' b)) (λ t.
            either_steady more k t (gives v) (gives v) (expr_means s zero_of calls b) (expr_means s zero_of calls' b) (gives_steady more k v) (expr_steady b)))
        expr_steady (Choose of test a b) =
            with_steady more k (expr_means s zero_of calls test) (expr_means s zero_of calls' test) (λ v. with_truth v (λ t. either t (expr_means s zero_of calls a) (expr_means s zero_of calls b))) (λ v. with_truth v (λ t. either t (expr_means s zero_of calls' a) (expr_means s zero_of calls' b))) (expr_steady test) (λ v.
            truth_steady more k v (λ t. either t (expr_means s zero_of calls a) (expr_means s zero_of calls b)) (λ t. either t (expr_means s zero_of calls' a) (expr_means s zero_of calls' b)) (λ t.
            either_steady more k t (expr_means s zero_of calls a) (expr_means s zero_of calls' a) (expr_means s zero_of calls b) (expr_means s zero_of calls' b) (expr_steady a) (expr_steady b)))
        expr_steady (Call callee of given) =
            let go : Finals → Action Value = λ f. with_some f.value gives in
            with_steady more k (givens_mean s zero_of calls given) (givens_mean s zero_of calls' given) (λ taken. and_with (call_means s zero_of calls callee true taken) go) (λ taken. and_with (call_means s zero_of calls' callee true taken) go) (givens_steady given) (λ taken.
            with_steady more k (call_means s zero_of calls callee true taken) (call_means s zero_of calls' callee true taken) go go (call_steady callee true taken) (λ f.
            some_steady more k f.value gives gives (gives_steady more k)))

        exprs_steady : (es : Exprs C T) → Steady more k (exprs_mean s zero_of calls es) (exprs_mean s zero_of calls' es)
        exprs_steady NoExpr = gives_steady more k []
        exprs_steady (More e es) =
            with_steady more k (expr_means s zero_of calls e) (expr_means s zero_of calls' e) (λ v. and_with (exprs_mean s zero_of calls es) (λ vs. gives (v ∷ vs))) (λ v. and_with (exprs_mean s zero_of calls' es) (λ vs. gives (v ∷ vs))) (expr_steady e) (λ v.
            with_steady more k (exprs_mean s zero_of calls es) (exprs_mean s zero_of calls' es) (λ vs. gives (v ∷ vs)) (λ vs. gives (v ∷ vs)) (exprs_steady es) (λ vs. gives_steady more k (v ∷ vs)))

        numbers_means_steady : (ns : Numbers C T) → Steady more k (numbers_mean s zero_of calls ns) (numbers_mean s zero_of calls' ns)
        numbers_means_steady NoNumber = gives_steady more k []
        numbers_means_steady (Index signed e rest) =
            let put : Value → List Numbered → Action (List Numbered) = λ v ns. gives (record { signed = signed; value = v } ∷ ns) in
            with_steady more k (expr_means s zero_of calls e) (expr_means s zero_of calls' e) (λ v. and_with (numbers_mean s zero_of calls rest) (put v)) (λ v. and_with (numbers_mean s zero_of calls' rest) (put v)) (expr_steady e) (λ v.
            with_steady more k (numbers_mean s zero_of calls rest) (numbers_mean s zero_of calls' rest) (put v) (put v) (numbers_means_steady rest) (λ ns. gives_steady more k (record { signed = signed; value = v } ∷ ns)))

        givens_steady : (gs : Givens C T) → Steady more k (givens_mean s zero_of calls gs) (givens_mean s zero_of calls' gs)
        givens_steady NoGiven = gives_steady more k []
        givens_steady (kernel.Value e gs) =
            with_steady more k (expr_means s zero_of calls e) (expr_means s zero_of calls' e) (λ v. and_with (givens_mean s zero_of calls gs) (λ ts. gives (Kept v ∷ ts))) (λ v. and_with (givens_mean s zero_of calls' gs) (λ ts. gives (Kept v ∷ ts))) (expr_steady e) (λ v.
            with_steady more k (givens_mean s zero_of calls gs) (givens_mean s zero_of calls' gs) (λ ts. gives (Kept v ∷ ts)) (λ ts. gives (Kept v ∷ ts)) (givens_steady gs) (λ ts. gives_steady more k (Kept v ∷ ts)))
        givens_steady (Lent true (At root numbers of) gs) =
            let put : List Numbered → Value → List Taken → Action (List Taken) = λ ns v ts. gives (Borrowed v root ns (zero_of of) ∷ ts) in
            with_steady more k (numbers_mean s zero_of calls numbers) (numbers_mean s zero_of calls' numbers) (λ ns. and_with (read_place s root ns (zero_of of)) (λ v. and_with (givens_mean s zero_of calls gs) (put ns v))) (λ ns. and_with (read_place s root ns (zero_of of)) (λ v. and_with (givens_mean s zero_of calls' gs) (put ns v))) (numbers_means_steady numbers) (λ ns.
            with_steady more k (read_place s root ns (zero_of of)) (read_place s root ns (zero_of of)) (λ v. and_with (givens_mean s zero_of calls gs) (put ns v)) (λ v. and_with (givens_mean s zero_of calls' gs) (put ns v)) (read_place_steady root ns (zero_of of)) (λ v.
            with_steady more k (givens_mean s zero_of calls gs) (givens_mean s zero_of calls' gs) (put ns v) (put ns v) (givens_steady gs) (λ ts. gives_steady more k (Borrowed v root ns (zero_of of) ∷ ts))))
        givens_steady (Lent false (At root numbers of) gs) =
            let put : List Numbered → List Taken → Action (List Taken) = λ ns ts. gives (Borrowed (zero_of of) root ns (zero_of of) ∷ ts) in
            with_steady more k (numbers_mean s zero_of calls numbers) (numbers_mean s zero_of calls' numbers) (λ ns. and_with (givens_mean s zero_of calls gs) (put ns)) (λ ns. and_with (givens_mean s zero_of calls' gs) (put ns)) (numbers_means_steady numbers) (λ ns.
            with_steady more k (givens_mean s zero_of calls gs) (givens_mean s zero_of calls' gs) (put ns) (put ns) (givens_steady gs) (λ ts. gives_steady more k (Borrowed (zero_of of) root ns (zero_of of) ∷ ts)))

      module _ (d d' : ℕ) (le : d ≤ d') where
        pub stat_steady : (x : Stat C T) → Steady more k (stat_means s zero_of calls d x) (stat_means s zero_of calls' d' x)
        stat_steady Skip = gives_steady more k Next
        stat_steady (Seq a b) = next_steady more k (stat_means s zero_of calls d a) (stat_means s zero_of calls' d' a) (stat_means s zero_of calls d b) (stat_means s zero_of calls' d' b) (stat_steady a) (stat_steady b)
        stat_steady (Put (At root numbers of) e) =
            let put : List Numbered → Value → Action Flow = λ ns v. write_place s root ns (zero_of of) v in
            with_steady more k (numbers_mean s zero_of calls numbers) (numbers_mean s zero_of calls' numbers) (λ ns. and_with (expr_means s zero_of calls e) (put ns)) (λ ns. and_with (expr_means s zero_of calls' e) (put ns)) (numbers_means_steady numbers) (λ ns.
            with_steady more k (expr_means s zero_of calls e) (expr_means s zero_of calls' e) (put ns) (put ns) (expr_steady e) (λ v. write_place_steady root ns (zero_of of) v))
        stat_steady (Change b before after (At root numbers of) e) =
            let store : List Numbered → Value → Action Flow = λ ns z. with_way (converted after z) (λ new. write_place s root ns (zero_of of) new) in
            let put : List Numbered → Value → Value → Action Flow = λ ns x y. with_way (binary_way b x y) (store ns) in
            with_steady more k (numbers_mean s zero_of calls numbers) (numbers_mean s zero_of calls' numbers)
            (λ ns. and_with (read_place s root ns (zero_of of)) (λ old. with_way (converted before old) (λ x. and_with (expr_means s zero_of calls e) (put ns x))))
            (λ ns. and_with (read_place s root ns (zero_of of)) (λ old. with_way (converted before old) (λ x. and_with (expr_means s zero_of calls' e) (put ns x))))
            (numbers_means_steady numbers) (λ ns.
            with_steady more k (read_place s root ns (zero_of of)) (read_place s root ns (zero_of of))
            (λ old. with_way (converted before old) (λ x. and_with (expr_means s zero_of calls e) (put ns x)))
            (λ old. with_way (converted before old) (λ x. and_with (expr_means s zero_of calls' e) (put ns x)))
            (read_place_steady root ns (zero_of of)) (λ old.
            way_steady more k (converted before old) (λ x. and_with (expr_means s zero_of calls e) (put ns x)) (λ x. and_with (expr_means s zero_of calls' e) (put ns x)) (λ x.
            with_steady more k (expr_means s zero_of calls e) (expr_means s zero_of calls' e) (put ns x) (put ns x) (expr_steady e) (λ y.
            way_steady more k (binary_way b x y) (store ns) (store ns) (λ z.
            way_steady more k (converted after z) (λ new. write_place s root ns (zero_of of) new) (λ new. write_place s root ns (zero_of of) new) (λ new. write_place_steady root ns (zero_of of) new))))))
        stat_steady (If test a b) =
            with_steady more k (expr_means s zero_of calls test) (expr_means s zero_of calls' test) (λ v. with_truth v (λ t. either t (stat_means s zero_of calls d a) (stat_means s zero_of calls d b))) (λ v. with_truth v (λ t. either t (stat_means s zero_of calls' d' a) (stat_means s zero_of calls' d' b))) (expr_steady test) (λ v.
            truth_steady more k v (λ t. either t (stat_means s zero_of calls d a) (stat_means s zero_of calls d b)) (λ t. either t (stat_means s zero_of calls' d' a) (stat_means s zero_of calls' d' b)) (λ t.
            either_steady more k t (stat_means s zero_of calls d a) (stat_means s zero_of calls' d' a) (stat_means s zero_of calls d b) (stat_means s zero_of calls' d' b) (stat_steady a) (stat_steady b)))
        stat_steady (When test a) =
            with_steady more k (expr_means s zero_of calls test) (expr_means s zero_of calls' test) (λ v. with_truth v (λ t. either t (stat_means s zero_of calls d a) (gives Next))) (λ v. with_truth v (λ t. either t (stat_means s zero_of calls' d' a) (gives Next))) (expr_steady test) (λ v.
            truth_steady more k v (λ t. either t (stat_means s zero_of calls d a) (gives Next)) (λ t. either t (stat_means s zero_of calls' d' a) (gives Next)) (λ t.
            either_steady more k t (stat_means s zero_of calls d a) (stat_means s zero_of calls' d' a) (gives Next) (gives Next) (stat_steady a) (gives_steady more k Next)))
        stat_steady (Loop test step body) =
            turns_steady more k (expr_means s zero_of calls test) (expr_means s zero_of calls' test) (stat_means s zero_of calls d step) (stat_means s zero_of calls' d' step) (stat_means s zero_of calls d body) (stat_means s zero_of calls' d' body) (expr_steady test) (stat_steady step) (stat_steady body) d d' le
        stat_steady Return = gives_steady more k (Returned None)
        stat_steady (Give e) =
            with_steady more k (expr_means s zero_of calls e) (expr_means s zero_of calls' e) (λ v. gives (Returned (Some v))) (λ v. gives (Returned (Some v))) (expr_steady e) (λ v. gives_steady more k (Returned (Some v)))
        stat_steady Break = gives_steady more k Broke
        stat_steady Continue = gives_steady more k Continued
        stat_steady (Run callee given) =
            let go : Finals → Action Flow = λ f. gives Next in
            with_steady more k (givens_mean s zero_of calls given) (givens_mean s zero_of calls' given) (λ taken. and_with (call_means s zero_of calls callee false taken) go) (λ taken. and_with (call_means s zero_of calls' callee false taken) go) (givens_steady given) (λ taken.
            with_steady more k (call_means s zero_of calls callee false taken) (call_means s zero_of calls' callee false taken) go go (call_steady callee false taken) (λ f. gives_steady more k Next))
