-- What programs in the kernel mean.
use Rattle.std.specs.Prelude.{ℕ, zero, suc, ◌+◌, ◌/◌, Bool, true, false, not, nat_eq, ◌&&◌, ◌||◌, List, [], ◌∷◌, ◌++◌, length, map, take, Option, Some, None, slice_get}
use Rattle.slang_names.specs.declared.places.Mode.{Mode}
use Rattle.slang_names.specs.declared.places.Mode.TheVariants as mode
use Rattle.behavior.specs.Values.{Value, Values, Truth, Word, Whole, NoMore, Then, Way, Found, part, put_part}
use Rattle.behavior.specs.Meanings.{Out, Undefined, Stuck, Ids, Meaning}
use Rattle.behavior.specs.Running.{World, Result, Went, Ends, Flow, Next, Broke, Continued, Returned, outcome}
use Rattle.spirv_words.specs.Machine.{Shape, Words}
use Rattle.spirv_words.specs.Step.{Spot, Byte, Beyond, Nowhere, spot}
use Rattle.shader_kernel.specs.Kernel.{Constant, Number, Logical, Null, Binary, Node, One, Convert, Root, Local, Buffer, Expr, Known, Pure, Read, Element, Short, Choose, Call, Exprs, NoExpr, More, Numbers, NoNumber, Index, Place, At, Givens, NoGiven, Lent, Stat, Skip, Seq, Put, Change, If, When, Loop, Return, Give, Break, Continue, Run, Parameter, Function}
use Rattle.shader_kernel.specs.Kernel as kernel
use Rattle.shader_kernel.specs.Operators.{unary_way, binary_way, node_way, at_path, zeros}
use Rattle.shader_kernel.specs.Actions.{Action, gives, ends, and_with, either, with_way, with_word, with_truth, with_some, with_local, set_local, Numbered, with_numbers, ask, tell, pay, and_next, turns, back_at}

-- ---- buffers, calls, and what a run does not change

-- data in buffers: the set and binding, and the types of the data with their places in bytes
pub record Bound : Type 0 where
  pub set : ℕ
  pub binding : ℕ
  pub shape : Shape

-- the program's buffers, and how many words each has by set and binding
pub record Fixed : Type 0 where
  pub buffers : List Bound
  pub lengths : ℕ → ℕ → ℕ

-- what a callee's parameter is given, and how it is passed
pub record Argument : Type 0 where
  pub lent : Bool
  pub value : Value

-- what a call leaves: the value that was given back, if one was, and what its parameters hold at its end
pub record Finals : Type 0 where
  pub value : Option Value
  pub parameters : List Value

-- an argument that was taken: a value, or a place with its numbers and the zero of its type
pub data Taken : Type 0 where
  Kept : (v : Value) → Taken
  Borrowed : (v : Value) (root : Root) (numbers : List Numbered) (like : Value) → Taken

abbrev pub argument_of : Taken → Argument
argument_of (Kept v) = record { lent = false; value = v }
argument_of (Borrowed v root numbers like) = record { lent = true; value = v }

-- what the callees do, with the argument of each parameter
abbrev pub Calls : Type 0 → Type 0
Calls C = C → Bool → List Argument → World → Result Finals

-- ---- constants and conversions

abbrev pub constant_value : {T : Type 0} → (T → Value) → Constant T → Value
constant_value zero_of (Number signed n) = Word n
constant_value zero_of (Logical b) = Truth b
constant_value zero_of (Null of) = zero_of of

-- a conversion between int and uint, where there is one
abbrev pub converted : Bool → Value → Way
converted true v = unary_way Convert v
converted false v = Found v

module _ (s : Fixed) where
  -- ---- accesses of buffer data

  -- a scalar of buffer data, by its path: it stands at a byte, and an index out of range is undefined
  abbrev pub at_spot : {A : Type 0} → Spot → (ℕ → Action A) → Action A
  at_spot (Byte n (Words signed)) k = k (n / 4)
  at_spot (Byte n shape) k = ends Stuck
  at_spot Beyond k = ends Undefined
  at_spot Nowhere k = ends Stuck

  abbrev pub at_scalar : {A : Type 0} → ℕ → List Numbered → List ℕ → (ℕ → ℕ → ℕ → Action A) → Action A
  at_scalar b numbers path k =
      with_some (slice_get s.buffers b) (λ x. with_numbers numbers (λ ns.
      at_spot (spot (s.lengths x.set x.binding) x.shape (ns ++ path) 0) (λ index. k x.set x.binding index)))

  abbrev pub read_scalar : ℕ → List Numbered → List ℕ → Action Value
  read_scalar b numbers path = at_scalar b numbers path ask

  abbrev pub write_scalar : ℕ → List Numbered → Value → List ℕ → Action Flow
  write_scalar b numbers v path =
      with_way (at_path v path) (λ x. at_scalar b numbers path (λ set binding index. with_word x (λ n. tell set binding index n)))

  -- all scalars of data like this value, in their order: each is an access of its own
  abbrev mutual
    pub read_like : ℕ → List Numbered → Value → List ℕ → Action Value
    read_like b numbers (Truth t) path = read_scalar b numbers path
    read_like b numbers (Word n) path = read_scalar b numbers path
    read_like b numbers (Whole vs) path = and_with (read_parts b numbers vs 0 path) (λ xs. gives (Whole xs))

    pub read_parts : ℕ → List Numbered → Values → ℕ → List ℕ → Action Values
    read_parts b numbers NoMore k path = gives NoMore
    read_parts b numbers (Then v vs) k path =
        and_with (read_like b numbers v (path ++ k ∷ [])) (λ x. and_with (read_parts b numbers vs (k + 1) path) (λ xs. gives (Then x xs)))

  abbrev mutual
    pub write_like : ℕ → List Numbered → Value → Value → List ℕ → Action Flow
    write_like b numbers new (Truth t) path = write_scalar b numbers new path
    write_like b numbers new (Word n) path = write_scalar b numbers new path
    write_like b numbers new (Whole vs) path = write_parts b numbers new vs 0 path

    pub write_parts : ℕ → List Numbered → Value → Values → ℕ → List ℕ → Action Flow
    write_parts b numbers new NoMore k path = gives Next
    write_parts b numbers new (Then v vs) k path =
        and_next (write_like b numbers new v (path ++ k ∷ [])) (write_parts b numbers new vs (k + 1) path)

  -- ---- accesses of places, by their numbers; the data of a buffer is like this value

  abbrev pub read_place : Root → List Numbered → Value → Action Value
  read_place (Local n) numbers like =
      with_local n (λ v. with_numbers numbers (λ ns. with_way (part v ns) gives))
  read_place (Buffer b) numbers like = read_like b numbers like []

  -- the place is looked for before anything is written to it
  abbrev pub write_place : Root → List Numbered → Value → Value → Action Flow
  write_place (Local n) numbers like new =
      with_local n (λ v. with_numbers numbers (λ ns. with_way (part v ns) (λ old. with_way (put_part v ns new) (λ whole. set_local n whole))))
  write_place (Buffer b) numbers like new = write_like b numbers new like []

  -- after a call: what the lent places are given, from left to right
  abbrev pub give_back : List Taken → List Value → Action Flow
  give_back [] finals = gives Next
  give_back (Kept v ∷ ts) [] = ends Stuck
  give_back (Kept v ∷ ts) (x ∷ xs) = give_back ts xs
  give_back (Borrowed v root numbers like ∷ ts) [] = ends Stuck
  give_back (Borrowed v root numbers like ∷ ts) (x ∷ xs) = and_next (write_place root numbers like x) (give_back ts xs)

  -- ---- bodies

  module _ {C T : Type 0} (zero_of : T → Value) (calls : Calls C) where
    -- the call itself is paid for when all is taken; then its body runs, and lent places are written back
    abbrev pub call_with : C → Bool → List Argument → Action Finals
    call_with callee wanted arguments l w = back_at (calls callee wanted arguments w) l

    abbrev pub call_means : C → Bool → List Taken → Action Finals
    call_means callee wanted taken =
        pay (and_with (call_with callee wanted (map argument_of taken)) (λ f. and_with (give_back taken f.parameters) (λ done. gives f)))

    -- parts are evaluated from left to right
    abbrev mutual
      pub expr_means : Expr C T → Action Value
      expr_means (Known c) = gives (constant_value zero_of c)
      expr_means (Pure node of parts) = and_with (exprs_mean parts) (λ vs. with_way (node_way zero_of node vs) gives)
      expr_means (Read (At root numbers of)) = and_with (numbers_mean numbers) (λ ns. read_place root ns (zero_of of))
      expr_means (Element of value signed index) =
          and_with (expr_means value) (λ v. and_with (expr_means index) (λ i.
          with_numbers (record { signed = signed; value = i } ∷ []) (λ ns. with_way (part v ns) gives)))
      expr_means (Short true a b) = and_with (expr_means a) (λ v. with_truth v (λ t. either t (expr_means b) (gives v)))
      expr_means (Short false a b) = and_with (expr_means a) (λ v. with_truth v (λ t. either t (gives v) (expr_means b)))
      expr_means (Choose of test a b) = and_with (expr_means test) (λ v. with_truth v (λ t. either t (expr_means a) (expr_means b)))
      expr_means (Call callee of given) =
          and_with (givens_mean given) (λ taken. and_with (call_means callee true taken) (λ f. with_some f.value gives))

      pub exprs_mean : Exprs C T → Action (List Value)
      exprs_mean NoExpr = gives []
      exprs_mean (More e es) = and_with (expr_means e) (λ v. and_with (exprs_mean es) (λ vs. gives (v ∷ vs)))

      pub numbers_mean : Numbers C T → Action (List Numbered)
      numbers_mean NoNumber = gives []
      numbers_mean (Index signed e rest) =
          and_with (expr_means e) (λ v. and_with (numbers_mean rest) (λ ns. gives (record { signed = signed; value = v } ∷ ns)))

      -- of a place that is only written, the numbers are evaluated at its turn, and the callee's parameter begins as zero
      pub givens_mean : Givens C T → Action (List Taken)
      givens_mean NoGiven = gives []
      givens_mean (kernel.Value e gs) = and_with (expr_means e) (λ v. and_with (givens_mean gs) (λ ts. gives (Kept v ∷ ts)))
      givens_mean (Lent true (At root numbers of) gs) =
          and_with (numbers_mean numbers) (λ ns. and_with (read_place root ns (zero_of of)) (λ v.
          and_with (givens_mean gs) (λ ts. gives (Borrowed v root ns (zero_of of) ∷ ts))))
      givens_mean (Lent false (At root numbers of) gs) =
          and_with (numbers_mean numbers) (λ ns. and_with (givens_mean gs) (λ ts. gives (Borrowed (zero_of of) root ns (zero_of of) ∷ ts)))

    -- a statement, with at most so many turns of each loop
    abbrev pub stat_means : ℕ → Stat C T → Action Flow
    stat_means d Skip = gives Next
    stat_means d (Seq a b) = and_next (stat_means d a) (stat_means d b)
    stat_means d (Put (At root numbers of) e) =
        and_with (numbers_mean numbers) (λ ns. and_with (expr_means e) (λ v. write_place root ns (zero_of of) v))
    stat_means d (Change b before after (At root numbers of) e) =
        and_with (numbers_mean numbers) (λ ns. and_with (read_place root ns (zero_of of)) (λ old. with_way (converted before old) (λ x.
        and_with (expr_means e) (λ y. with_way (binary_way b x y) (λ z. with_way (converted after z) (λ new. write_place root ns (zero_of of) new))))))
    stat_means d (If test a b) = and_with (expr_means test) (λ v. with_truth v (λ t. either t (stat_means d a) (stat_means d b)))
    stat_means d (When test a) = and_with (expr_means test) (λ v. with_truth v (λ t. either t (stat_means d a) (gives Next)))
    stat_means d (Loop test step body) = turns d (expr_means test) (stat_means d step) (stat_means d body)
    stat_means d Return = gives (Returned None)
    stat_means d (Give e) = and_with (expr_means e) (λ v. gives (Returned (Some v)))
    stat_means d Break = gives Broke
    stat_means d Continue = gives Continued
    stat_means d (Run callee given) = and_with (givens_mean given) (λ taken. and_with (call_means callee false taken) (λ f. gives Next))

-- ---- functions and programs

-- whether each parameter is given what its mode asks for
abbrev pub is_lent : Mode → Bool
is_lent mode.In = false
is_lent mode.Out = true
is_lent mode.InOut = true

abbrev pub same : Bool → Bool → Bool
same true b = b
same false b = not b

abbrev pub fit : {T : Type 0} → List (Parameter T) → List Argument → Bool
fit [] [] = true
fit [] (a ∷ others) = false
fit (p ∷ ps) [] = false
fit (p ∷ ps) (a ∷ others) = same (is_lent p.mode) a.lent && fit ps others

abbrev pub value_of : Argument → Value
value_of a = a.value

-- what a body leaves: so many of its first locals are its parameters, and a function with a result gives one back
abbrev pub finals : Bool → ℕ → Result Flow → Result Finals
finals result n (Ends events e) = Ends events e
finals result n (Went Broke l w) = Ends w.events Stuck
finals result n (Went Continued l w) = Ends w.events Stuck
finals true n (Went Next l w) = Ends w.events Stuck
finals true n (Went (Returned None) l w) = Ends w.events Stuck
finals true n (Went (Returned (Some v)) l w) = Went (record { value = Some v; parameters = take n l }) l w
finals false n (Went Next l w) = Went (record { value = None; parameters = take n l }) l w
finals false n (Went (Returned None) l w) = Went (record { value = None; parameters = take n l }) l w
finals false n (Went (Returned (Some v)) l w) = Ends w.events Stuck

-- a program: its buffers, what its types' zeros are, the bodies of its functions, and the one that runs, with the locals of its
-- body and the built-in values that its parameters are given
pub record Program (C T : Type 0) : Type 0 where
  pub buffers : List Bound
  pub zero_of : T → Value
  pub function : C → Option (Function C T)
  pub entry : C
  pub inputs : List (Ids → Value)

abbrev pub fixed : {C T : Type 0} → Program C T → (ℕ → ℕ → ℕ) → Fixed
fixed p lengths = record { buffers = p.buffers; lengths = lengths }

module _ {C T : Type 0} (p : Program C T) (lengths : ℕ → ℕ → ℕ) where
  -- a body begins with its parameters and with zeros for its locals
  abbrev pub body_means : ℕ → Calls C → Function C T → List Value → Action Flow
  body_means d calls f given l w = stat_means (fixed p lengths) p.zero_of calls d f.body (given ++ zeros p.zero_of f.locals) w

  -- it is called with what its parameters ask for, and has a result where one is wanted
  abbrev pub takes : Function C T → Bool → List Argument → Bool
  takes f wanted arguments = fit f.parameters arguments && (not wanted || f.gives)

  abbrev pub function_means : ℕ → Calls C → Option (Function C T) → Bool → List Argument → World → Result Finals
  function_means d calls None wanted arguments w = Ends w.events Stuck
  function_means d calls (Some f) wanted arguments w =
      either (takes f wanted arguments)
      (λ l w1. finals f.gives (length f.parameters) (body_means d calls f (map value_of arguments) l w1))
      (ends Stuck) [] w

  -- calls in calls to a depth, which what can still be paid for never reaches
  abbrev pub calls_at : ℕ → Calls C
  calls_at zero callee wanted arguments w = Ends w.events Out
  calls_at (suc d) callee wanted arguments w = function_means (suc d) (calls_at d) (p.function callee) wanted arguments w

abbrev pub input_values : Ids → List (Ids → Value) → List Value
input_values ids inputs = map (λ f. f ids) inputs

-- the entry has a parameter for each built-in value that it is given
abbrev pub entry_means : {C T : Type 0} → Program C T → (ℕ → ℕ → ℕ) → ℕ → Option (Function C T) → List Value → World → Result Flow
entry_means p lengths n None given w = Ends w.events Stuck
entry_means p lengths n (Some f) given w =
    either (nat_eq (length f.parameters) (length given)) (body_means p lengths (suc n) (calls_at p lengths n) f given) (ends Stuck) [] w

-- what a program does in an invocation, with at most n turns of loops and calls
abbrev pub means : {C T : Type 0} → Program C T → Meaning
means p ids lengths answers n =
    outcome (entry_means p lengths n (p.function p.entry) (input_values ids p.inputs) (record { answers = answers; events = []; clock = n }))
