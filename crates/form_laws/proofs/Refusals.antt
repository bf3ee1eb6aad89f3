-- Where reading a module stops.
use Rattle.std.proofs.Common.{◌≡◌, ℕ, List, [], ◌∷◌, ◌++◌, length, refl, sym, ap, ◌∙◌, append_assoc, arith}
use Rattle.std.proofs.lemmas.List.{append-nil, length-append}
use Rattle.form_grammar.specs.declared.codes.Stop.{Stop}
use Rattle.form_grammar.specs.Trees.{Tree, spelling}
use Rattle.form_grammar.specs.Grammar.{module_form}
use Rattle.form_grammar.specs.Reading.{form_at, nested_at}
use Rattle.form_laws.specs.Forms.{GoesOn}
use Rattle.form_laws.specs.Refusals.{IsBytes, StopsAt}
use Rattle.form_laws.proofs.Same.{split_same}
use Rattle.form_laws.proofs.Takes.{IsSound, stopped}
use Rattle.form_laws.proofs.Refuses.{Refuses, Reads, refuses}
use Rattle.form_laws.proofs.Ends.{IsCoded, ends}
use Rattle.form_laws.proofs.Completes.{HasExample, completes}
use Rattle.form_laws.specs.Limits.{LimitAt}
use Rattle.form_laws.proofs.Limits.{IsLimit, limits}

pub module_sound : IsSound module_form
module_sound = search depth 80

pub module_example : HasExample module_form
module_example = search (arith) depth 80

pub module_coded : IsCoded module_form
module_coded = search depth 80

pub module_stops : (bytes : List ℕ) (s : Stop) → IsBytes bytes → form_at (nested_at 128) module_form bytes ≡ stopped {A = Tree} s → StopsAt bytes s
module_stops bytes s p e =
    let c = completes 128 module_form bytes s module_sound module_example p e in
    record {
      front = c.front;
      back = c.back;
      parts = c.parts;
      left = c.left;
      before = (c.more, c.longer, (c.whole.0, c.whole.1, sym c.whole.2));
      ends = λ k. empty c.back (sym c.left ∙ ends 128 module_form bytes s module_coded e k);
      here = λ w.
          let r = refuses 128 module_form bytes s module_sound p e w in
          let n : length c.front ≡ length r.front = omega (arith, ap length c.parts, ap length r.parts, length-append c.front c.back, length-append r.front (r.b ∷ r.back), c.left, r.left) in
          let t = split_same c.front r.front c.back (r.b ∷ r.back) n (sym c.parts ∙ r.parts) in
          (r.b, r.back, t.1, none_goes c.front r.front r.b r t.0);
    }
  where
    empty : (xs : List ℕ) → length xs ≡ 0 → xs ≡ []
    empty [] h = refl
    empty (x ∷ xs) h = absurd (omega arith)

    none_goes : (front front2 : List ℕ) (b : ℕ) (r : Refuses (Reads module_form) bytes s) → front ≡ r.front → GoesOn (front ++ r.b ∷ []) → ⊥
    none_goes front front2 b r t g = r.none g.0 (g.1.0, [], g.1.1, append-nil (spelling g.1.0) ∙ (sym g.1.2 ∙ (append_assoc front (r.b ∷ []) g.0 ∙ ap (λ z. z ++ (r.b ∷ g.0)) t)))

pub module_limit : (bytes : List ℕ) (s : Stop) → IsBytes bytes → form_at (nested_at 128) module_form bytes ≡ stopped {A = Tree} s → IsLimit s → LimitAt bytes s
module_limit bytes s p e k =
    let r = limits 128 module_form bytes s module_sound module_example module_coded p e k in
    record {
      front = r.front;
      b = r.b;
      back = r.back;
      parts = r.parts;
      left = r.left;
      last = r.last;
      tells = r.tells;
      core = r.is.0;
      more = r.is.1;
      form = r.is.2;
      over = r.is.3;
      spelled = r.is.4;
    }
