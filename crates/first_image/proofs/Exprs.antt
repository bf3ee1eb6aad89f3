-- One law for each template of an expression, and one induction over the items of a sum.
use Rattle.std.proofs.Common.{◌≡◌, ℕ, ◌+◌, ◌<◌, ◌≤◌, Bool, true, false, List, [], ◌∷◌, ◌++◌, length, Some, None, refl, ap, ◌∙◌, arith, length-append}
use Rattle.std.specs.Prelude.{slice_get}
use Rattle.std.proofs.lemmas.Option.{slice_get_within}
use Rattle.behavior.specs.Values.{Value, Word, part}
use Rattle.behavior.specs.Operations.{word_add}
use Rattle.behavior.specs.Running.{World, Result, Went, then, on_word, on_way}
use Rattle.spirv_words.specs.declared.opcodes.Op.{Op}
use Rattle.spirv_words.specs.declared.opcodes.Op.TheVariants.{Load, IAdd}
use Rattle.spirv_words.specs.Machine.{Local, Plain, Path, if_some, Second, standing, is_signed, result_at, type_at}
use Rattle.spirv_words.specs.Step.{State, Goes, act, gives}
use Rattle.spirv_words.specs.Runs.{shape_of}
use Rattle.first_form.specs.declared.shader.Sum.{Sum}
use Rattle.first_form.specs.declared.shader.Item.{Item}
use Rattle.first_form.specs.declared.shader.Item.TheVariants.{Number, X}
use Rattle.first_image.specs.Source.{component_means, item_means, plus_means, more_means, sum_means}
use Rattle.first_image.specs.Templates.{ins, Code, Pair, pair_code, operator_code, component_code, item_code, more_code, sum_code}
use Rattle.first_image.proofs.Standing.{HasAt, has_front, has_back}
use Rattle.first_image.proofs.Acts.{at_same, load_acts, chain_acts, chain_undefined, add_acts}
use Rattle.first_image.proofs.Comes.{Follows, follows_on, then_follows, word_follows, local_follows, way_follows, is_undefined}
use Rattle.first_image.proofs.Relation.{Context, HasType, IsReady, Sound, Begins, Reaches, Gives, ExprRuns, reaches_here, begins_on, reaches_on, reaches_at, here, result_reaches}

-- two values, one after the other
pub record PairGives (c : Context) (s : State) (w : World) (id temp p : ℕ) (q : Pair) (x y : Value) (l : List Value) (w' : World) : Type 0 where
  pub to : State
  pub there : Reaches c s w id temp p l w' to
  pub has_left : to.ids q.left ≡ Some (Plain x)
  pub has_right : to.ids q.right ≡ Some (Plain y)
  pub more : id ≤ q.id
  pub low : q.right < q.id

-- the numbers that an item, and the items of a sum, name are among the constants
abbrev pub ItemUsed : (ℕ → Bool) → Item → Type 0
ItemUsed used (Number n) = used n ≡ true
ItemUsed used X = used 0 ≡ true

abbrev pub ItemsUsed : (ℕ → Bool) → List Item → Type 0
ItemsUsed used [] = Unit {0}
ItemsUsed used (i ∷ is) = ItemUsed used i × ItemsUsed used is

abbrev pub SumUsed : (ℕ → Bool) → Sum → Type 0
SumUsed used s = ItemUsed used s.first × ItemsUsed used s.rest

module _ (c : Context) (ready : IsReady c) where
  -- ---- what ids stand for

  -- the pointer to a local leads to its variable
  local_known : (s : State) (l : List Value) (i : ℕ) (v : Value) → Sound c s l → slice_get l i ≡ Some v → s.ids (c.t.pointer i) ≡ Some (Path (Local (c.at_level i) (c.at_variable i)) [])
  local_known s l i v so e =
      let lt : i < c.count = omega (arith, so.count, slice_get_within l i v e) in
      so.known (c.t.pointer i) (ready.local_low i lt) ∙ ready.local_is i lt

  pub constant_known : (s : State) (l : List Value) (n : ℕ) → Sound c s l → c.used n ≡ true → s.ids (c.t.constant n) ≡ Some (Plain (Word n))
  constant_known s l n so u = so.known (c.t.constant n) (ready.constant_low n u) ∙ ready.constant n u

  -- a value of the type uint is no int
  pub not_signed : (id : ℕ) → HasType c.m id c.t.word → c.m.signed id ≡ false
  not_signed id h =
      ready.linked.signed_is id
      ∙ ap (λ o. if_some o false (λ i. is_signed (shape_of c.m.globals i))) h.defined
      ∙ ap (λ o. is_signed (if_some o None (λ t. c.m.globals.shapes t))) h.typed
      ∙ ap is_signed ready.linked.word

  constant_unsigned : (n : ℕ) → c.used n ≡ true → c.m.signed (c.t.constant n) ≡ false
  constant_unsigned n u = not_signed (c.t.constant n) (ready.linked.constant_typed n u)

  -- ---- the items of a sum

  number_runs : (n : ℕ) → c.used n ≡ true → ExprRuns c c.t.word (item_code c.t (Number n)) (item_means (Number n))
  number_runs n u = record {
    more_ids = λ id temp. omega arith;
    more_temps = λ id temp. omega arith;
    typed = λ id temp p has. ready.linked.constant_typed n u;
    runs = λ id temp p s w l from has fit. record {
      to = s;
      there = reaches_at c (omega arith) (reaches_here c temp from);
      has = constant_known s l n from.sound u;
      low = omega (arith, ready.constant_low n u, from.low);
    };
  }

  component_runs : (i k : ℕ) → c.used k ≡ true → ExprRuns c c.t.word (component_code c.t i k) (component_means i k)
  component_runs i k u = record {
    more_ids = λ id temp. omega arith;
    more_temps = λ id temp. omega arith;
    typed = λ id temp p has. record { by = ins Load (c.t.word ∷ (id + 1) ∷ id ∷ []); defined = ready.linked.definitions (p + 1) (id + 1) _ has.1.0 refl; typed = refl };
    runs = λ id temp p s w l from has fit.
        let P = Gives c s w id temp (p + 2) (id + 1) (id + 2) in
        local_follows c.m s w P (slice_get l i) w (λ v. on_way (part v (k ∷ [])) w (λ x. Went x l w)) (λ v is.
        let h = c.at_level i in
        let y = c.at_variable i in
        let known = local_known s l i v from.sound is in
        let same : part (s.memory h y) (k ∷ []) ≡ part v (k ∷ []) = ap (λ v. part v (k ∷ [])) (from.sound.locals i v is) in
        let unsigned = constant_unsigned k u in
        let index = constant_known s l k from.sound u in
        let start = reaches_here c temp from in
        way_follows c.m s w P (part v (k ∷ [])) w (λ x. Went x l w)
        (λ x found.
        let o = Path (Local h y) (k ∷ []) in
        let first = result_reaches c _ id o start has.0 (omega arith) from.low (chain_acts c.m s c.t.word_pointer id (c.t.pointer i) (c.t.constant k) h y k x known index unsigned (same ∙ found)) in
        let second = result_reaches c _ (id + 1) (Plain x) first has.1.0 (omega arith) (omega (arith, from.low)) (load_acts c.m (gives s id o) c.t.word (id + 1) id h y (k ∷ []) x (at_same s.ids id o) (same ∙ found)) in
        record {
          to = gives (gives s id o) (id + 1) (Plain x);
          there = reaches_at c (omega arith) second;
          has = at_same (gives s id o).ids (id + 1) (Plain x);
          low = omega arith;
        })
        (λ outside. is_undefined c.m s w _ (here c start has.0) (chain_undefined c.m s c.t.word_pointer id (c.t.pointer i) (c.t.constant k) h y k known index unsigned (same ∙ outside))));
  }

  item_runs : (i : Item) → ItemUsed c.used i → ExprRuns c c.t.word (item_code c.t i) (item_means i)
  item_runs (Number n) u = number_runs n u
  item_runs X u = component_runs 0 0 u

  -- ---- two values

  pub pair_more_ids : (ta tb : ℕ) (ca cb : ℕ → ℕ → Code) (ma mb : List Value → World → Result Value) → ExprRuns c ta ca ma → ExprRuns c tb cb mb → (id temp : ℕ) → id ≤ (pair_code (ca id temp) cb).id
  pair_more_ids ta tb ca cb ma mb ra rb id temp = omega (arith, ra.more_ids id temp, rb.more_ids (ca id temp).id (ca id temp).temp)

  pub pair_more_temps : (ta tb : ℕ) (ca cb : ℕ → ℕ → Code) (ma mb : List Value → World → Result Value) → ExprRuns c ta ca ma → ExprRuns c tb cb mb → (id temp : ℕ) → temp ≤ (pair_code (ca id temp) cb).temp
  pair_more_temps ta tb ca cb ma mb ra rb id temp = omega (arith, ra.more_temps id temp, rb.more_temps (ca id temp).id (ca id temp).temp)

  -- what follows two values that stand one after the other
  pub pair_follows : {B : Type 0} (ta tb : ℕ) (ca cb : ℕ → ℕ → Code) (ma mb : List Value → World → Result Value) → ExprRuns c ta ca ma → ExprRuns c tb cb mb → (id temp p : ℕ) (s : State) (w : World) (l : List Value) → Begins c id p s w l → HasAt c.m.code p (pair_code (ca id temp) cb).instructions → (pair_code (ca id temp) cb).temp ≤ c.temps → (Q : B → List Value → World → Type 0) (go : Value → Value → List Value → World → Result B) → ((x y : Value) (l2 : List Value) (w2 : World) → PairGives c s w id temp (p + length (pair_code (ca id temp) cb).instructions) (pair_code (ca id temp) cb) x y l2 w2 → Follows c.m s w Q (go x y l2 w2)) → Follows c.m s w Q (then (ma l w) (λ x l1 w1. then (mb l1 w1) (λ y l2 w2. go x y l2 w2)))
  pair_follows ta tb ca cb ma mb ra rb id temp p s w l from has fit Q go f =
      let a = ca id temp in
      let b = cb a.id a.temp in
      let fit_a : a.temp ≤ c.temps = omega (arith, rb.more_temps a.id a.temp) in
      let more_a = ra.more_ids id temp in
      let more_b = rb.more_ids a.id a.temp in
      let P = PairGives c s w id temp (p + length (a.instructions ++ b.instructions)) (pair_code a cb) in
      then_follows c.m s w (Gives c s w id temp (p + length a.instructions) a.value a.id) Q (ma l w) (λ x l1 w1. then (mb l1 w1) (λ y l2 w2. go x y l2 w2)) (ra.runs id temp p s w l from (has_front c.m.code p a.instructions b.instructions has) fit_a) (λ x l1 w1 ga.
      then_follows c.m s w (P x) Q (mb l1 w1) (λ y l2 w2. go x y l2 w2)
      (follows_on c.m s ga.to w w1 (Gives c ga.to w1 a.id a.temp (p + length a.instructions + length b.instructions) b.value b.id) (P x) (mb l1 w1) ga.there.comes
      (λ y l2 w2 gb. record {
        to = gb.to;
        there = reaches_at c (omega (arith, length-append a.instructions b.instructions)) (reaches_on c ga.there more_a (ra.more_temps id temp) gb.there);
        has_left = gb.there.later.ids a.value ga.low ∙ ga.has;
        has_right = gb.has;
        more = omega (arith, more_a, more_b);
        low = gb.low;
      })
      (rb.runs a.id a.temp (p + length a.instructions) ga.to w1 l1 (begins_on c a.id from more_a ga.there) (has_back c.m.code p a.instructions b.instructions has) fit))
      (λ y l2 w2 h. f x y l2 w2 h))

  -- an operator whose opcode gives the value g of two words
  operator_runs : (op : Op) (type ta tb : ℕ) (g : ℕ → ℕ → Value) (ca cb : ℕ → ℕ → Code) (ma mb : List Value → World → Result Value) → standing op ≡ Second → ((s : State) (r a b x y : ℕ) → s.ids a ≡ Some (Plain (Word x)) → s.ids b ≡ Some (Plain (Word y)) → act c.m op (type ∷ r ∷ a ∷ b ∷ []) s ≡ Goes (gives s r (Plain (g x y)))) → ExprRuns c ta ca ma → ExprRuns c tb cb mb → ExprRuns c type (λ id temp. operator_code op type (pair_code (ca id temp) cb)) (λ l w. then (ma l w) (λ x l1 w1. then (mb l1 w1) (λ y l2 w2. on_word x w2 (λ n. on_word y w2 (λ m. Went (g n m) l2 w2)))))
  operator_runs op type ta tb g ca cb ma mb second acts ra rb = record {
    more_ids = λ id temp. omega (arith, pair_more_ids ta tb ca cb ma mb ra rb id temp);
    more_temps = λ id temp. pair_more_temps ta tb ca cb ma mb ra rb id temp;
    typed = λ id temp p has.
        let q = pair_code (ca id temp) cb in
        let i = ins op (type ∷ q.id ∷ q.left ∷ q.right ∷ []) in
        record {
          by = i;
          defined = ready.linked.definitions (p + length q.instructions) q.id i (has_back c.m.code p q.instructions (i ∷ []) has).0 (ap (λ o. result_at o i.operands) second);
          typed = ap (λ o. type_at o i.operands) second;
        };
    runs = λ id temp p s w l from has fit.
        let q = pair_code (ca id temp) cb in
        let i = ins op (type ∷ q.id ∷ q.left ∷ q.right ∷ []) in
        let P = Gives c s w id temp (p + length (q.instructions ++ i ∷ [])) q.id (q.id + 1) in
        let at_i = (has_back c.m.code p q.instructions (i ∷ []) has).0 in
        pair_follows ta tb ca cb ma mb ra rb id temp p s w l from (has_front c.m.code p q.instructions (i ∷ []) has) fit P (λ x y l2 w2. on_word x w2 (λ n. on_word y w2 (λ m. Went (g n m) l2 w2))) (λ x y l2 w2 h.
        word_follows c.m s w P x w2 (λ n. on_word y w2 (λ m. Went (g n m) l2 w2)) (λ n is_n.
        word_follows c.m s w P y w2 (λ m. Went (g n m) l2 w2) (λ m is_m. record {
          to = gives h.to q.id (Plain (g n m));
          there = reaches_at c (omega (arith, length-append q.instructions (i ∷ []))) (result_reaches c i q.id (Plain (g n m)) h.there at_i h.more (omega (arith, h.more, from.low)) (acts h.to q.id q.left q.right n m (h.has_left ∙ ap (λ v. Some (Plain v)) is_n) (h.has_right ∙ ap (λ v. Some (Plain v)) is_m)));
          has = at_same h.to.ids q.id (Plain (g n m));
          low = omega arith;
        })));
  }

  -- ---- sums

  plus_runs : (ca cb : ℕ → ℕ → Code) (ma mb : List Value → World → Result Value) → ExprRuns c c.t.word ca ma → ExprRuns c c.t.word cb mb → ExprRuns c c.t.word (λ id temp. operator_code IAdd c.t.word (pair_code (ca id temp) cb)) (plus_means ma mb)
  plus_runs ca cb ma mb ra rb =
      operator_runs IAdd c.t.word c.t.word c.t.word (λ n m. Word (word_add n m)) ca cb ma mb refl (λ s r a b x y h e. add_acts c.m s c.t.word r a b x y h e) ra rb

  -- the items to come are added to what is summed so far
  more_runs : (is : List Item) → ItemsUsed c.used is → (ca : ℕ → ℕ → Code) (ma : List Value → World → Result Value) → ExprRuns c c.t.word ca ma → ExprRuns c c.t.word (more_code c.t ca is) (more_means ma is)
  more_runs [] u ca ma ra = ra
  more_runs (i ∷ is) u ca ma ra = more_runs is u.1 (λ id temp. operator_code IAdd c.t.word (pair_code (ca id temp) (item_code c.t i))) (plus_means ma (item_means i)) (plus_runs ca (item_code c.t i) ma (item_means i) ra (item_runs i u.0))

  pub sum_runs : (s : Sum) → SumUsed c.used s → ExprRuns c c.t.word (sum_code c.t s) (sum_means s)
  sum_runs s u = more_runs s.rest u.1 (item_code c.t s.first) (item_means s.first) (item_runs s.first u.0)
