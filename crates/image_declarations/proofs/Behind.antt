-- A list of which the last items were taken away, one after the other.
use Rattle.std.proofs.Common.{◌≡◌, ◌+◌, List, [], ◌∷◌, ◌++◌, length, drop, arith, sym, ◌∙◌, ap, append_assoc, length-append}
use Rattle.std.proofs.lemmas.Grind.{common_steps}

drop-front : {X : Type 0} (xs ys : List X) → drop (length xs) (xs ++ ys) ≡ ys
drop-front xs ys = grind (arith, common_steps)

-- what is left is before, then x; and behind it stands the rest
pub record Step {X : Type 0} (code left before : List X) (x : X) : Type 0 where
  pub whole : code ≡ before ++ drop (length before) code
  pub behind : drop (length before) code ≡ x ∷ drop (length left) code
  pub longer : length left ≡ length before + 1

pub one_less : {X : Type 0} (code left before : List X) (x : X) → left ≡ before ++ x ∷ [] → code ≡ left ++ drop (length left) code → Step code left before x
one_less code left before x e w =
    let rest = drop (length left) code in
    let all : code ≡ before ++ (x ∷ rest) = w ∙ ap (λ l. l ++ rest) e ∙ append_assoc before (x ∷ []) rest in
    let behind : drop (length before) code ≡ x ∷ rest = ap (drop (length before)) all ∙ drop-front before (x ∷ rest) in
    record {
      whole = all ∙ ap (λ r. before ++ r) (sym behind);
      behind = behind;
      longer = ap length e ∙ length-append before (x ∷ []);
    }
