-- Buffers that may come one behind the other are those that have a text.
use Rattle.std.proofs.Common.{◌≡◌, ℕ, ◌+◌, ◌-◌, ◌<◌, ◌≤◌, Bool, cond, ltb, Option, Some, None, List, [], ◌∷◌, length, refl, sym, ap, subst, ◌∙◌, inl, inr, arith}
use Rattle.std.specs.List.{AllByRecursion}
use Rattle.std.proofs.lemmas.Bool.{cases_lt, cases_eq, eq-eqb, ne_eqb, lt-ltb, le-ltb}
use Rattle.run_buffers.specs.declared.buffer.Buffer.{Buffer}
use Rattle.run_buffers.specs.Texts.{IsNarrow, IsBefore, IsAscending, words_in, Fits}
use Rattle.run_buffers.specs.Lines.{Ahead, MayHead, MayFollow, FitsIn, ahead_behind, lowest_binding, header_of}

-- ---- what may come behind a buffer

abbrev next_binding : Ahead → Buffer → Ahead
next_binding ahead b = record { set = b.set; binding = b.binding + 1; words = ahead.words - length b.words }

abbrev next_set : Ahead → Buffer → Ahead
next_set ahead b = record { set = b.set + 1; binding = 0; words = ahead.words - length b.words }

abbrev by_set : Ahead → Buffer → Bool → Option Ahead
by_set ahead b t = cond t (Some (next_set ahead b)) None

behind_low : (ahead : Ahead) (b : Buffer) → b.binding < 4294967295 → ahead_behind ahead b ≡ Some (next_binding ahead b)
behind_low ahead b h = ap (λ (t : Bool). cond t (Some (next_binding ahead b)) (by_set ahead b (ltb b.set 4294967295))) (lt-ltb b.binding 4294967295 h)

behind_high : (ahead : Ahead) (b : Buffer) → 4294967295 ≤ b.binding → ahead_behind ahead b ≡ by_set ahead b (ltb b.set 4294967295)
behind_high ahead b h = ap (λ (t : Bool). cond t (Some (next_binding ahead b)) (by_set ahead b (ltb b.set 4294967295))) (le-ltb b.binding 4294967295 h)

behind_set : (ahead : Ahead) (b : Buffer) → 4294967295 ≤ b.binding → b.set < 4294967295 → ahead_behind ahead b ≡ Some (next_set ahead b)
behind_set ahead b h g = behind_high ahead b h ∙ ap (by_set ahead b) (lt-ltb b.set 4294967295 g)

behind_all : (ahead : Ahead) (b : Buffer) → 4294967295 ≤ b.binding → 4294967295 ≤ b.set → ahead_behind ahead b ≡ None
behind_all ahead b h g = behind_high ahead b h ∙ ap (by_set ahead b) (le-ltb b.set 4294967295 g)

lowest_same : (ahead : Ahead) (set : ℕ) → set ≡ ahead.set → lowest_binding ahead set ≡ ahead.binding
lowest_same ahead set e = ap (λ (t : Bool). cond t ahead.binding 0) (eq-eqb set ahead.set e)

lowest_other : (ahead : Ahead) (set : ℕ) → (set ≡ ahead.set → ⊥) → lowest_binding ahead set ≡ 0
lowest_other ahead set ne = ap (λ (t : Bool). cond t ahead.binding 0) (ne_eqb set ahead.set ne)

lowest_zero : (ahead : Ahead) (set : ℕ) → ahead.binding ≡ 0 → lowest_binding ahead set ≡ 0
lowest_zero ahead set e = elim (cases_eq set ahead.set) [
  | inl same ↦ lowest_same ahead set same ∙ e
  | inr other ↦ lowest_other ahead set other
]

-- ---- from what may come to what has a text

abbrev pub room_of : Option Ahead → ℕ
room_of None = 0
room_of (Some ahead) = ahead.words

before_next : (ahead : Ahead) (b c : Buffer) (o : Option Ahead) → ahead_behind ahead b ≡ o → (cs : List Buffer) → FitsIn o (c ∷ cs) → IsBefore b c
before_next ahead b c None e cs can = absurd can
before_next ahead b c (Some next) e cs can =
    elim (cases_lt b.binding 4294967295) [
      | inl low ↦
          let n : next ≡ next_binding ahead b = let k = behind_low ahead b low in cc in
          let may = subst (λ (a : Ahead). MayHead a (header_of c)) n can.0.0 in
          elim (cases_eq c.set b.set) [
            | inl same ↦ let l = lowest_same (next_binding ahead b) c.set same in let m = may.1.0 in inr (sym same, omega arith)
            | inr other ↦ let m = may.0.0 in inl (omega arith)
          ]
      | inr high ↦
          elim (cases_lt b.set 4294967295) [
            | inl low ↦
                let n : next ≡ next_set ahead b = let k = behind_set ahead b high low in cc in
                let may = subst (λ (a : Ahead). MayHead a (header_of c)) n can.0.0 in
                let m = may.0.0 in
                inl (omega arith)
            | inr all ↦ absurd (let k = behind_all ahead b high all in cc)
          ]
    ]

pub room_behind : (ahead : Ahead) (b : Buffer) → room_of (ahead_behind ahead b) ≤ ahead.words - length b.words
room_behind ahead b =
    elim (cases_lt b.binding 4294967295) [
      | inl low ↦ let e = ap room_of (behind_low ahead b low) in omega arith
      | inr high ↦
          elim (cases_lt b.set 4294967295) [
            | inl low ↦ let e = ap room_of (behind_set ahead b high low) in omega arith
            | inr all ↦ let e = ap room_of (behind_all ahead b high all) in omega arith
          ]
    ]

narrow_of : (ahead : Ahead) (b : Buffer) → MayFollow ahead b → IsNarrow b
narrow_of ahead b may = let s = may.0.0.1 in let g = may.0.1.1 in (omega arith, omega arith, may.1)

has_text : (o : Option Ahead) (bs : List Buffer) → FitsIn o bs → AllByRecursion IsNarrow bs × IsAscending bs × (words_in bs ≤ room_of o)
has_text o [] can = (tt, tt, omega arith)
has_text None (b ∷ bs) can = absurd can
has_text (Some ahead) (b ∷ []) can = ((narrow_of ahead b can.0, tt), tt, let w = can.0.0.2.1 in omega arith)
has_text (Some ahead) (b ∷ c ∷ cs) can =
    let r = has_text (ahead_behind ahead b) (c ∷ cs) can.1 in
    let more = r.2 in
    let room = room_behind ahead b in
    let w = can.0.0.2.1 in
    ((narrow_of ahead b can.0, r.0), (before_next ahead b c (ahead_behind ahead b) refl cs can.1, r.1), omega arith)

abbrev pub start : Ahead
start = record { set = 0; binding = 0; words = 1048576 }

pub fits_from_in : (bs : List Buffer) → FitsIn (Some start) bs → Fits bs
fits_from_in bs can = let r = has_text (Some start) bs can in record { narrow = r.0; ascending = r.1; few_words = r.2 }

-- ---- and back

next_start : (ahead : Ahead) (b c : Buffer) → IsNarrow b → IsNarrow c → IsBefore b c → length b.words + length c.words ≤ ahead.words
    → (next : Ahead) × (ahead_behind ahead b ≡ Some next) × MayHead next (header_of c) × (next.words ≡ ahead.words - length b.words)
next_start ahead b c nb nc before few =
    let sb = nb.0 in let bb = nb.1 in let sc = nc.0 in let bc = nc.1 in
    elim (cases_lt b.binding 4294967295) [
      | inl low ↦ (
        next_binding ahead b,
        behind_low ahead b low,
        elim before [
          | inl less ↦ let l = lowest_other (next_binding ahead b) c.set (λ (e : c.set ≡ b.set). omega arith) in ((omega arith, omega arith), (omega arith, omega arith), (omega arith, omega arith))
          | inr same ↦ let s = same.0 in let t = same.1 in let l = lowest_same (next_binding ahead b) c.set (sym same.0) in ((omega arith, omega arith), (omega arith, omega arith), (omega arith, omega arith))
        ],
        refl,
      )
      | inr high ↦ elim before [
        | inl less ↦ (next_set ahead b, behind_set ahead b high (omega arith), (let l = lowest_zero (next_set ahead b) c.set refl in ((omega arith, omega arith), (omega arith, omega arith), (omega arith, omega arith))), refl)
        | inr same ↦ absurd (let t = same.1 in omega arith)
      ]
    ]

may_come : (ahead : Ahead) (b : Buffer) (bs : List Buffer) → AllByRecursion IsNarrow (b ∷ bs) → IsAscending (b ∷ bs) → words_in (b ∷ bs) ≤ ahead.words → MayHead ahead (header_of b) → FitsIn (Some ahead) (b ∷ bs)
may_come ahead b [] narrow ascending few may = ((may, narrow.0.2), tt)
may_come ahead b (c ∷ cs) narrow ascending few may =
    let n = next_start ahead b c narrow.0 narrow.1.0 ascending.0 (omega arith) in
    let w = n.3 in
    let r = may_come n.0 c cs narrow.1 ascending.1 (omega arith) n.2 in
    ((may, narrow.0.2), subst (λ (o : Option Ahead). FitsIn o (c ∷ cs)) (sym n.1) r)

pub fits_in_from : (bs : List Buffer) → Fits bs → FitsIn (Some start) bs
fits_in_from [] fits = tt
fits_in_from (b ∷ bs) fits =
    let s = fits.narrow.0.0 in let g = fits.narrow.0.1 in let w = fits.few_words in
    let l = lowest_zero start b.set refl in
    may_come start b bs fits.narrow fits.ascending fits.few_words ((omega arith, omega arith), (omega arith, omega arith), (omega arith, omega arith))
