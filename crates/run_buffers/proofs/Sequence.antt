-- One part after another: where reading stops in the first, and in what follows it.
use Rattle.std.proofs.Common.{◌≡◌, ℕ, ◌<◌, ◌⊎◌, List, [], ◌∷◌, ◌++◌, length, refl, sym, ap, ◌∙◌, arith, inl, inr}
use Rattle.std.proofs.lemmas.List.{append_assoc, append-nil, append_cancel_left, length-append}
use Rattle.run_buffers.specs.Parts.{Stops}

-- where two pairs of lists make one, one first list begins with the other
pub splits : (xs ys zs ws : List ℕ) → xs ++ ys ≡ zs ++ ws → ((k : List ℕ) × (xs ≡ zs ++ k) × (ws ≡ k ++ ys)) ⊎ ((k : List ℕ) × (zs ≡ xs ++ k) × (ys ≡ k ++ ws))
splits xs ys [] ws e = inl (xs, refl, sym e)
splits [] ys (z ∷ zs) ws e = inr (z ∷ zs, refl, e)
splits (x ∷ xs) ys (z ∷ zs) ws e =
    let h : x ≡ z = cc in
    let t : xs ++ ys ≡ zs ++ ws = cc in
    elim (splits xs ys zs ws t) [
      | inl r ↦ inl (r.0, ap (λ (u : ℕ). u ∷ xs) h ∙ ap (λ (us : List ℕ). z ∷ us) r.1, r.2)
      | inr r ↦ inr (r.0, ap (λ (u : ℕ). u ∷ zs) (sym h) ∙ ap (λ (us : List ℕ). x ∷ us) r.1, r.2)
    ]

-- no part begins another
abbrev pub IsPrefixFree : {A : Type 0} → (A → List ℕ) → (A → Type 0) → Type 0
IsPrefixFree {A} spell Can = (a b : A) (x y : List ℕ) → Can a → Can b → spell a ++ x ≡ spell b ++ y → a ≡ b

-- a whole is spelled as its first part and a rest
pub record Begun {A C : Type 0} (spell : A → List ℕ) (Can : A → Type 0) (whole : C → List ℕ) (May : C → Type 0) (head : C → A) (tail : C → List ℕ) : Type 0 where
  pub free : IsPrefixFree spell Can
  pub can : (c : C) → May c → Can (head c)
  pub is : (c : C) → May c → whole c ≡ spell (head c) ++ tail c

pub nothing_more : (xs ys : List ℕ) → xs ≡ xs ++ ys → 0 < length ys → ⊥
nothing_more xs ys e h = let l = length-append xs ys in let k = ap length e in omega arith

-- the other part reaches at least as far as the front
wrong_inside : {A : Type 0} (spell : A → List ℕ) (Can : A → Type 0) → IsPrefixFree spell Can → {bytes : List ℕ} {left : ℕ} (s : Stops spell Can bytes left)
    → (b : ℕ) (rest : List ℕ) (other : A) (k after t : List ℕ) → s.back ≡ b ∷ rest → Can other → spell other ≡ s.front ++ k → b ∷ t ≡ k ++ after → ⊥
wrong_inside spell Can free s b rest other [] after t back_is can e f =
    let all : spell other ++ s.more ≡ spell s.value ++ [] = ap (λ (us : List ℕ). us ++ s.more) (e ∙ append-nil s.front) ∙ (sym s.begins ∙ sym (append-nil (spell s.value))) in
    let same = free other s.value s.more [] can s.can all in
    nothing_more (spell other) s.more (ap spell same ∙ (s.begins ∙ ap (λ (us : List ℕ). us ++ s.more) (sym (append-nil s.front) ∙ sym e))) s.proper
wrong_inside spell Can free s b rest other (x ∷ k) after t back_is can e f =
    let h : x ≡ b = cc in
    s.wrong b rest other k back_is can (e ∙ ap (λ (u : ℕ). s.front ++ u ∷ k) h)

pub wrong_first : {A C : Type 0} (spell : A → List ℕ) (Can : A → Type 0) (whole : C → List ℕ) (May : C → Type 0) (head : C → A) (tail : C → List ℕ)
    → Begun spell Can whole May head tail → {bytes : List ℕ} {left : ℕ} (s : Stops spell Can bytes left)
    → (b : ℕ) (rest : List ℕ) (other : C) (t : List ℕ) → s.back ≡ b ∷ rest → May other → whole other ≡ s.front ++ b ∷ t → ⊥
wrong_first spell Can whole May head tail begun s b rest other t back_is can e =
    let whole_is : spell (head other) ++ tail other ≡ s.front ++ b ∷ t = sym (begun.is other can) ∙ e in
    elim (splits (spell (head other)) (tail other) s.front (b ∷ t) whole_is) [
      | inl r ↦ wrong_inside spell Can begun.free s b rest (head other) r.0 (tail other) t back_is (begun.can other can) r.1 r.2
      | inr r ↦
          let all : spell s.value ++ [] ≡ spell (head other) ++ (r.0 ++ s.more) = append-nil (spell s.value) ∙ (s.begins ∙ (ap (λ (us : List ℕ). us ++ s.more) r.1 ∙ append_assoc (spell (head other)) r.0 s.more)) in
          let same = begun.free s.value (head other) [] (r.0 ++ s.more) s.can (begun.can other can) all in
          nothing_more (spell s.value) (r.0 ++ s.more) (sym (append-nil (spell s.value)) ∙ (all ∙ ap (λ v. spell v ++ (r.0 ++ s.more)) (sym same))) (let l = length-append r.0 s.more in let p = s.proper in omega arith)
    ]

pub stops_first : {A C : Type 0} (spell : A → List ℕ) (Can : A → Type 0) (whole : C → List ℕ) (May : C → Type 0) (head : C → A) (tail : C → List ℕ)
    → Begun spell Can whole May head tail → ((a : A) → Can a → (c : C) × May c × (head c ≡ a))
    → (bytes : List ℕ) (left : ℕ) → Stops spell Can bytes left → Stops whole May bytes left
stops_first spell Can whole May head tail begun fill bytes left s =
    let f = fill s.value s.can in
    record {
      front = s.front;
      back = s.back;
      parts = s.parts;
      left_is = s.left_is;
      value = f.0;
      more = s.more ++ tail f.0;
      can = f.1;
      begins = begun.is f.0 f.1 ∙ (ap (λ v. spell v ++ tail f.0) f.2 ∙ (ap (λ (us : List ℕ). us ++ tail f.0) s.begins ∙ append_assoc s.front s.more (tail f.0)));
      proper = let l = length-append s.more (tail f.0) in let p = s.proper in omega arith;
      wrong = wrong_first spell Can whole May head tail begun s;
    }

pub stops_then : {A B C : Type 0} (spell : A → List ℕ) (Can : A → Type 0) (whole : C → List ℕ) (May : C → Type 0) (head : C → A) (tail : C → List ℕ)
    (after : B → List ℕ) (CanAfter : B → Type 0) (a : A)
    → Begun spell Can whole May head tail → Can a
    → ((c : C) → May c → head c ≡ a → (b : B) × CanAfter b × (tail c ≡ after b))
    → ((b : B) → CanAfter b → (c : C) × May c × (whole c ≡ spell a ++ after b))
    → (bytes rest : List ℕ) (left : ℕ) → bytes ≡ spell a ++ rest → Stops after CanAfter rest left → Stops whole May bytes left
stops_then spell Can whole May head tail after CanAfter a begun can down up bytes rest left e s =
    let u = up s.value s.can in
    record {
      front = spell a ++ s.front;
      back = s.back;
      parts = e ∙ (ap (λ (us : List ℕ). spell a ++ us) s.parts ∙ sym (append_assoc (spell a) s.front s.back));
      left_is = s.left_is;
      value = u.0;
      more = s.more;
      can = u.1;
      begins = u.2 ∙ (ap (λ (us : List ℕ). spell a ++ us) s.begins ∙ sym (append_assoc (spell a) s.front s.more));
      proper = s.proper;
      wrong = λ b behind other t back_is may f.
          let g : spell (head other) ++ tail other ≡ spell a ++ (s.front ++ b ∷ t) = sym (begun.is other may) ∙ (f ∙ append_assoc (spell a) s.front (b ∷ t)) in
          let same = begun.free (head other) a (tail other) (s.front ++ b ∷ t) (begun.can other may) can g in
          let d = down other may same in
          let cut = append_cancel_left (spell a) (tail other) (s.front ++ b ∷ t) (ap (λ v. spell v ++ tail other) (sym same) ∙ g) in
          s.wrong b behind d.0 t back_is d.1 (sym d.2 ∙ cut);
    }
