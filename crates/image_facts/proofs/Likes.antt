-- Values like a shape, and their parts.
use Rattle.std.proofs.Common.{◌≡◌, ℕ, zero, suc, ◌+◌, ◌-◌, ◌*◌, ◌^◌, ◌<◌, Bool, true, false, cond, List, [], ◌∷◌, ◌++◌, length, get_or, refl, sym, ap, subst, ◌∙◌, arith}
use Rattle.std.specs.Prelude.{nat_lt}
use Rattle.std.specs.List.{All}
use Rattle.std.proofs.lemmas.Bool.{ltb-true, ltb-false, lt-ltb, le-ltb}
use Rattle.std.proofs.lemmas.List.{get_or_append_left, get_or-append_right, length-append}
use Rattle.behavior.specs.Values.{Value, Values, Truth, Word, Whole, NoMore, Then, Way, Found, Outside, Wrong, nth, set_nth, and_then, part_of, part, put_part_of, put_part}
use Rattle.spirv_words.specs.Machine.{Shape, Shapes, Truths, Words, Repeated, Fields, NoField, Field, zero_of}
use Rattle.flat_values.specs.Flat.{flat, flats, width, IsOf, AllOf, FieldsOf, IsData, AreData}
use Rattle.flat_values.specs.Pieces.{Piece, At, OutOfRange, NoPart, member, piece_of, then_piece, piece}
use Rattle.flat_values.proofs.Zeros.{zero_is_of}
use Rattle.image_facts.specs.Alike.{IsLike, AllLike, FieldsLike}

-- ---- with bounds and without

mutual
  pub of-like : (v : Value) (s : Shape) → IsOf v s → IsLike v s
  of-like (Truth b) Truths h = tt
  of-like (Word w) (Words signed) h = tt
  of-like (Whole vs) (Repeated n stride of) h = of-likes vs n of h
  of-like (Whole vs) (Fields fs) h = of-fields vs fs h
  of-like v s h = absurd h

  of-likes : (vs : Values) (n : ℕ) (of : Shape) → AllOf vs n of → AllLike vs n of
  of-likes NoMore zero of h = tt
  of-likes (Then v vs) (suc n) of h = (of-like v of h.0, of-likes vs n of h.1)
  of-likes vs n of h = absurd h

  of-fields : (vs : Values) (fs : Shapes) → FieldsOf vs fs → FieldsLike vs fs
  of-fields NoMore NoField h = tt
  of-fields (Then v vs) (Field offset of rest) h = (of-like v of h.0, of-fields vs rest h.1)
  of-fields vs fs h = absurd h

pub zero-like : (s : Shape) → IsData s → IsLike (zero_of s) s
zero-like s d = of-like (zero_of s) s (zero_is_of s d)

abbrev pub AreWords : List ℕ → Type 0
AreWords ws = All (λ w. w < 2 ^ 32) ws

first-words : (xs ys : List ℕ) → AreWords (xs ++ ys) → AreWords xs
first-words xs ys h k d l =
    subst (λ (w : ℕ). w < 2 ^ 32) (get_or_append_left xs ys d k l) (h k d (omega (arith, length-append xs ys)))

later-words : (xs ys : List ℕ) → AreWords (xs ++ ys) → AreWords ys
later-words xs ys h k d l =
    let e : (length xs + k) - length xs ≡ k = omega arith in
    subst (λ (w : ℕ). w < 2 ^ 32)
    (get_or-append_right xs ys (length xs) (length xs + k) d refl (omega arith) ∙ ap (λ (j : ℕ). get_or ys j d) e)
    (h (length xs + k) d (omega (arith, length-append xs ys)))

mutual
  pub like-of : (v : Value) (s : Shape) → IsLike v s → AreWords (flat v) → IsOf v s
  like-of (Truth b) Truths h a = tt
  like-of (Word w) (Words signed) h a = a 0 0 (omega arith)
  like-of (Whole vs) (Repeated n stride of) h a = likes-of vs n of h a
  like-of (Whole vs) (Fields fs) h a = fields-of vs fs h a
  like-of v s h a = absurd h

  likes-of : (vs : Values) (n : ℕ) (of : Shape) → AllLike vs n of → AreWords (flats vs) → AllOf vs n of
  likes-of NoMore zero of h a = tt
  likes-of (Then v vs) (suc n) of h a =
      (like-of v of h.0 (first-words (flat v) (flats vs) a), likes-of vs n of h.1 (later-words (flat v) (flats vs) a))
  likes-of vs n of h a = absurd h

  fields-of : (vs : Values) (fs : Shapes) → FieldsLike vs fs → AreWords (flats vs) → FieldsOf vs fs
  fields-of NoMore NoField h a = tt
  fields-of (Then v vs) (Field offset of rest) h a =
      (like-of v of h.0 (first-words (flat v) (flats vs) a), fields-of vs rest h.1 (later-words (flat v) (flats vs) a))
  fields-of vs fs h a = absurd h

-- ---- one part

-- a part was found, and is like the piece there; or both say that there is none
abbrev pub LikePart : Way → Piece → Type 0
LikePart (Found w) (At place of) = IsLike w of
LikePart Outside OutOfRange = Unit {0}
LikePart Wrong NoPart = Unit {0}
LikePart way p = ⊥

nth-item : (vs : Values) (n : ℕ) (of : Shape) (i place : ℕ) (b : Bool) → AllLike vs n of → nat_lt i n ≡ b
    → LikePart (nth vs i) (cond b (At place of) OutOfRange)
nth-item NoMore zero of i place true h e = absurd (omega (arith, ltb-true i 0 e))
nth-item NoMore zero of i place false h e = tt
nth-item (Then v vs) (suc n) of zero place true h e = h.0
nth-item (Then v vs) (suc n) of zero place false h e = absurd (omega (arith, ltb-false 0 (suc n) e))
nth-item (Then v vs) (suc n) of (suc i) place true h e =
    nth-item vs n of i place true h.1 (lt-ltb i n (omega (arith, ltb-true (suc i) (suc n) e)))
nth-item (Then v vs) (suc n) of (suc i) place false h e =
    nth-item vs n of i place false h.1 (le-ltb i n (omega (arith, ltb-false (suc i) (suc n) e)))
nth-item vs n of i place b h e = absurd h

nth-member : (vs : Values) (fs : Shapes) (i from : ℕ) → FieldsLike vs fs → LikePart (nth vs i) (member fs i from)
nth-member NoMore NoField i from h = tt
nth-member (Then v vs) (Field offset of rest) zero from h = h.0
nth-member (Then v vs) (Field offset of rest) (suc i) from h = nth-member vs rest i (from + width of) h.1
nth-member vs fs i from h = absurd h

pub one-like : (v : Value) (s : Shape) (i from : ℕ) → IsLike v s → LikePart (part_of v i) (piece_of s i from)
one-like (Truth b) Truths i from h = tt
one-like (Word w) (Words signed) i from h = tt
one-like (Whole vs) (Repeated n stride of) i from h = nth-item vs n of i (from + i * width of) (nat_lt i n) h refl
one-like (Whole vs) (Fields fs) i from h = nth-member vs fs i from h
one-like v s i from h = absurd h

-- ---- a path

then-like : (way : Way) (p : Piece) (go : Value → Way) (on : ℕ → Shape → Piece) → LikePart way p
    → ((w : Value) (place : ℕ) (of : Shape) → IsLike w of → LikePart (go w) (on place of))
    → LikePart (and_then way go) (then_piece p on)
then-like (Found w) (At place of) go on h k = k w place of h
then-like Outside OutOfRange go on h k = tt
then-like Wrong NoPart go on h k = tt
then-like way p go on h k = absurd h

pub part-like : (v : Value) (s : Shape) (path : List ℕ) (from : ℕ) → IsLike v s → LikePart (part v path) (piece s path from)
part-like v s [] from h = h
part-like v s (i ∷ path) from h =
    then-like (part_of v i) (piece_of s i from) (λ w. part w path) (λ place of. piece of path place) (one-like v s i from h)
    (λ w place of g. part-like w of path place g)

-- ---- a replaced part

set-item : (vs : Values) (n : ℕ) (of : Shape) (i : ℕ) (w : Value) → AllLike vs n of → IsLike w of → AllLike (set_nth vs i w) n of
set-item NoMore zero of i w h g = tt
set-item (Then v vs) (suc n) of zero w h g = (g, h.1)
set-item (Then v vs) (suc n) of (suc i) w h g = (h.0, set-item vs n of i w h.1 g)
set-item vs n of i w h g = absurd h

set-member : (vs : Values) (fs : Shapes) (i from place : ℕ) (of : Shape) (w : Value) → FieldsLike vs fs → member fs i from ≡ At place of
    → IsLike w of → FieldsLike (set_nth vs i w) fs
set-member NoMore NoField i from place of w h e g = tt
set-member (Then v vs) (Field offset of' rest) zero from place of w h e g =
    let same : of ≡ of' = cc in
    (subst (λ (s : Shape). IsLike w s) same g, h.1)
set-member (Then v vs) (Field offset of' rest) (suc i) from place of w h e g =
    (h.0, set-member vs rest i (from + width of') place of w h.1 e g)
set-member vs fs i from place of w h e g = absurd h

item-shape : (b : Bool) (p place : ℕ) (of of' : Shape) → cond b (At p of') OutOfRange ≡ At place of → of ≡ of'
item-shape true p place of of' e = cc
item-shape false p place of of' e = cc

set-like : (v : Value) (s : Shape) (i from place : ℕ) (of : Shape) (w : Value) → IsLike v s → piece_of s i from ≡ At place of → IsLike w of
    → IsLike (put_part_of v i w) s
set-like (Whole vs) (Repeated n stride of') i from place of w h e g =
    set-item vs n of' i w h (subst (λ (s : Shape). IsLike w s) (item-shape (nat_lt i n) (from + i * width of') place of of' e) g)
set-like (Whole vs) (Fields fs) i from place of w h e g = set-member vs fs i from place of w h e g
set-like (Truth b) Truths i from place of w h e g = tt
set-like (Word x) (Words signed) i from place of w h e g = tt
set-like v s i from place of w h e g = absurd h

-- a part was replaced: with a value like that part the whole is like what it was
abbrev pub LikePut : Way → Piece → Value → Shape → Type 0
LikePut (Found w) (At place of) new s = IsLike new of → IsLike w s
LikePut Outside OutOfRange new s = Unit {0}
LikePut Wrong NoPart new s = Unit {0}
LikePut way p new s = ⊥

then-put : (v : Value) (s of : Shape) (i from place : ℕ) (way : Way) (p : Piece) (new : Value) → IsLike v s → piece_of s i from ≡ At place of
    → LikePut way p new of → LikePut (and_then way (λ w. Found (put_part_of v i w))) p new s
then-put v s of i from place (Found w) (At q t) new h e k = λ g. set-like v s i from place of w h e (k g)
then-put v s of i from place Outside OutOfRange new h e k = tt
then-put v s of i from place Wrong NoPart new h e k = tt
then-put v s of i from place way p new h e k = absurd k

at-part : (v : Value) (s : Shape) (i from : ℕ) (way : Way) (p : Piece) (new : Value) (go : Value → Way) (on : ℕ → Shape → Piece)
    → IsLike v s → piece_of s i from ≡ p → LikePart way p
    → ((w : Value) (place : ℕ) (of : Shape) → IsLike w of → LikePut (go w) (on place of) new of)
    → LikePut (and_then way (λ old. and_then (go old) (λ w. Found (put_part_of v i w)))) (then_piece p on) new s
at-part v s i from (Found old) (At place of) new go on h e l k = then-put v s of i from place (go old) (on place of) new h e (k old place of l)
at-part v s i from Outside OutOfRange new go on h e l k = tt
at-part v s i from Wrong NoPart new go on h e l k = tt
at-part v s i from way p new go on h e l k = absurd l

pub put-like : (v new : Value) (s : Shape) (path : List ℕ) (from : ℕ) → IsLike v s → LikePut (put_part v path new) (piece s path from) new s
put-like v new s [] from h = λ g. g
put-like v new s (i ∷ path) from h =
    at-part v s i from (part_of v i) (piece_of s i from) new (λ old. put_part old path new) (λ place of. piece of path place) h refl
    (one-like v s i from h) (λ w place of g. put-like w new of path place g)

-- ---- the same by what the piece is

found-of : (way : Way) (p : Piece) (place : ℕ) (of : Shape) → LikePart way p → p ≡ At place of → (w : Value) × (way ≡ Found w) × IsLike w of
found-of (Found w) (At q t) place of h e = let same : t ≡ of = cc in (w, refl, subst (λ (s : Shape). IsLike w s) same h)
found-of Outside OutOfRange place of h e = cc
found-of Wrong NoPart place of h e = cc
found-of way p place of h e = absurd h

pub part-found : (v : Value) (s of : Shape) (path : List ℕ) (from place : ℕ) → IsLike v s → piece s path from ≡ At place of
    → (w : Value) × (part v path ≡ Found w) × IsLike w of
part-found v s of path from place h e = found-of (part v path) (piece s path from) place of (part-like v s path from h) e

outside-of : (way : Way) (p : Piece) → LikePart way p → p ≡ OutOfRange → way ≡ Outside
outside-of (Found w) (At q t) h e = cc
outside-of Outside OutOfRange h e = refl
outside-of Wrong NoPart h e = cc
outside-of way p h e = absurd h

pub part-outside : (v : Value) (s : Shape) (path : List ℕ) (from : ℕ) → IsLike v s → piece s path from ≡ OutOfRange → part v path ≡ Outside
part-outside v s path from h e = outside-of (part v path) (piece s path from) (part-like v s path from h) e

put-found-of : (way : Way) (p : Piece) (new : Value) (s : Shape) (place : ℕ) (of : Shape) → LikePut way p new s → p ≡ At place of → IsLike new of
    → (w : Value) × (way ≡ Found w) × IsLike w s
put-found-of (Found w) (At q t) new s place of h e g =
    let same : of ≡ t = cc in (w, refl, h (subst (λ (s : Shape). IsLike new s) same g))
put-found-of Outside OutOfRange new s place of h e g = cc
put-found-of Wrong NoPart new s place of h e g = cc
put-found-of way p new s place of h e g = absurd h

pub put-found : (v new : Value) (s of : Shape) (path : List ℕ) (from place : ℕ) → IsLike v s → IsLike new of → piece s path from ≡ At place of
    → (w : Value) × (put_part v path new ≡ Found w) × IsLike w s
put-found v new s of path from place h g e =
    put-found-of (put_part v path new) (piece s path from) new s place of (put-like v new s path from h) e g

put-outside-of : (way : Way) (p : Piece) (new : Value) (s : Shape) → LikePut way p new s → p ≡ OutOfRange → way ≡ Outside
put-outside-of (Found w) (At q t) new s h e = cc
put-outside-of Outside OutOfRange new s h e = refl
put-outside-of Wrong NoPart new s h e = cc
put-outside-of way p new s h e = absurd h

pub put-outside : (v new : Value) (s : Shape) (path : List ℕ) (from : ℕ) → IsLike v s → piece s path from ≡ OutOfRange → put_part v path new ≡ Outside
put-outside v new s path from h e = put-outside-of (put_part v path new) (piece s path from) new s (put-like v new s path from h) e

-- ---- pieces from another place on

abbrev Shifted : Piece → ℕ → Piece → Type 0
Shifted (At p s) b (At q t) = (q ≡ b + p) × (s ≡ t)
Shifted OutOfRange b OutOfRange = Unit {0}
Shifted NoPart b NoPart = Unit {0}
Shifted p b q = ⊥

item-shifts : (n : ℕ) (of : Shape) (i a b : ℕ) (t : Bool) → Shifted (cond t (At (a + i * width of) of) OutOfRange) b (cond t (At ((b + a) + i * width of) of) OutOfRange)
item-shifts n of i a b true = (omega arith, refl)
item-shifts n of i a b false = tt

member-shifts : (fs : Shapes) (i a b : ℕ) → Shifted (member fs i a) b (member fs i (b + a))
member-shifts NoField i a b = tt
member-shifts (Field offset of rest) zero a b = (refl, refl)
member-shifts (Field offset of rest) (suc i) a b =
    let e : b + (a + width of) ≡ (b + a) + width of = omega arith in
    subst (λ (n : ℕ). Shifted (member rest i (a + width of)) b (member rest i n)) e (member-shifts rest i (a + width of) b)

one-shifts : (s : Shape) (i a b : ℕ) → Shifted (piece_of s i a) b (piece_of s i (b + a))
one-shifts (Repeated n stride of) i a b = item-shifts n of i a b (nat_lt i n)
one-shifts (Fields fs) i a b = member-shifts fs i a b
one-shifts s i a b = tt

then-shifts : (p q : Piece) (b : ℕ) (f g : ℕ → Shape → Piece) → Shifted p b q
    → ((place : ℕ) (of : Shape) → Shifted (f place of) b (g (b + place) of)) → Shifted (then_piece p f) b (then_piece q g)
then-shifts (At p s) (At q t) b f g h k =
    subst (λ (x : ℕ). Shifted (f p s) b (g x t)) (sym h.0) (subst (λ (x : Shape). Shifted (f p s) b (g (b + p) x)) h.1 (k p s))
then-shifts OutOfRange OutOfRange b f g h k = tt
then-shifts NoPart NoPart b f g h k = tt
then-shifts p q b f g h k = absurd h

shifts : (s : Shape) (path : List ℕ) (a b : ℕ) → Shifted (piece s path a) b (piece s path (b + a))
shifts s [] a b = (refl, refl)
shifts s (i ∷ path) a b =
    then-shifts (piece_of s i a) (piece_of s i (b + a)) b (λ place of. piece of path place) (λ place of. piece of path place) (one-shifts s i a b)
    (λ place of. shifts of path place b)

shifted-at : (p q : Piece) (b place : ℕ) (of : Shape) → Shifted p b q → p ≡ At place of → q ≡ At (b + place) of
shifted-at (At x s) (At y t) b place of h e =
    let a : x ≡ place = cc in
    let c : s ≡ of = cc in
    ap (λ (n : ℕ). At n t) (h.0 ∙ ap (λ (n : ℕ). b + n) a) ∙ ap (At (b + place)) (sym h.1 ∙ c)
shifted-at OutOfRange OutOfRange b place of h e = cc
shifted-at NoPart NoPart b place of h e = cc
shifted-at p q b place of h e = absurd h

shifted-out : (p q : Piece) (b : ℕ) → Shifted p b q → p ≡ OutOfRange → q ≡ OutOfRange
shifted-out (At x s) (At y t) b h e = cc
shifted-out OutOfRange OutOfRange b h e = refl
shifted-out NoPart NoPart b h e = cc
shifted-out p q b h e = absurd h

pub piece-shifts : (s : Shape) (path : List ℕ) (a b place : ℕ) (of : Shape) → piece s path a ≡ At place of → piece s path (b + a) ≡ At (b + place) of
piece-shifts s path a b place of e = shifted-at (piece s path a) (piece s path (b + a)) b place of (shifts s path a b) e

pub piece-shifts-out : (s : Shape) (path : List ℕ) (a b : ℕ) → piece s path a ≡ OutOfRange → piece s path (b + a) ≡ OutOfRange
piece-shifts-out s path a b e = shifted-out (piece s path a) (piece s path (b + a)) b (shifts s path a b) e

-- ---- the parts of data are data

abbrev IsDataAt : Piece → Type 0
IsDataAt (At place of) = IsData of
IsDataAt p = Unit {0}

item-data : (of : Shape) (place : ℕ) (b : Bool) → IsData of → IsDataAt (cond b (At place of) OutOfRange)
item-data of place true h = h
item-data of place false h = tt

member-data : (fs : Shapes) (i from : ℕ) → AreData fs → IsDataAt (member fs i from)
member-data NoField i from h = tt
member-data (Field offset of rest) zero from h = h.0
member-data (Field offset of rest) (suc i) from h = member-data rest i (from + width of) h.1

one-data : (s : Shape) (i from : ℕ) → IsData s → IsDataAt (piece_of s i from)
one-data (Repeated n stride of) i from h = item-data of (from + i * width of) (nat_lt i n) h
one-data (Fields fs) i from h = member-data fs i from h
one-data s i from h = tt

then-data : (p : Piece) (f : ℕ → Shape → Piece) → IsDataAt p → ((place : ℕ) (of : Shape) → IsData of → IsDataAt (f place of)) → IsDataAt (then_piece p f)
then-data (At place of) f h k = k place of h
then-data OutOfRange f h k = tt
then-data NoPart f h k = tt

data-at : (s : Shape) (path : List ℕ) (from : ℕ) → IsData s → IsDataAt (piece s path from)
data-at s [] from h = h
data-at s (i ∷ path) from h =
    then-data (piece_of s i from) (λ place of. piece of path place) (one-data s i from h) (λ place of g. data-at of path place g)

pub data-part : (s of : Shape) (path : List ℕ) (from place : ℕ) → IsData s → piece s path from ≡ At place of → IsData of
data-part s of path from place h e = subst IsDataAt e (data-at s path from h)
