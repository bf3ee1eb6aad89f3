-- One word more of a string.
use Rattle.std.proofs.Common.{◌≡◌, ℕ, ◌+◌, ◌-◌, ◌<◌, List, length, get_or, take, drop, Option, Some, None, refl, sym, ap, ◌∙◌, add-one, drop-cons}
use Rattle.std.proofs.lemmas.List.{take_rest}
use Rattle.spirv_words.specs.declared.layouts.Ending.TheVariants.{GoesOn, Ends}
use Rattle.spirv_words.specs.declared.layouts.Ending.TheVariants as endings
use Rattle.spirv_words.specs.Layouts.{Quarter, Full, Last, Broken, quarter, string_rest, after_string}
use Rattle.spirv_words.specs.Misfits.{ending_of}

-- the words from a place on
from_place : (ws : List ℕ) (i : ℕ) → i < length ws →
    after_string (drop i ws) ≡ string_rest (quarter (get_or ws i 0)) (drop (i + 1) ws) (after_string (drop (i + 1) ws))
from_place ws i lt = ap after_string (drop-cons ws i 0 lt) ∙ rw add-one refl

rest_goes_on : (q : Quarter) (rest : List ℕ) (further : Option (List ℕ)) → GoesOn ≡ ending_of q → string_rest q rest further ≡ further
rest_goes_on Full rest further e = refl
rest_goes_on Last rest further e = cc
rest_goes_on Broken rest further e = cc

rest_ends : (q : Quarter) (rest : List ℕ) (further : Option (List ℕ)) → Ends ≡ ending_of q → string_rest q rest further ≡ Some rest
rest_ends Full rest further e = cc
rest_ends Last rest further e = refl
rest_ends Broken rest further e = cc

rest_broken : (q : Quarter) (rest : List ℕ) (further : Option (List ℕ)) → endings.Broken ≡ ending_of q → string_rest q rest further ≡ None
rest_broken Full rest further e = cc
rest_broken Last rest further e = cc
rest_broken Broken rest further e = refl

pub goes_on_here : (ws : List ℕ) (i : ℕ) → i < length ws → GoesOn ≡ ending_of (quarter (get_or ws i 0)) → after_string (drop (i + 1) ws) ≡ after_string (drop i ws)
goes_on_here ws i lt e = sym (from_place ws i lt ∙ rest_goes_on _ _ _ e)

pub ends_here : (ws : List ℕ) (i : ℕ) → i < length ws → Ends ≡ ending_of (quarter (get_or ws i 0)) → Some (take (length ws - (i + 1)) (drop (i + 1) ws)) ≡ after_string (drop i ws)
ends_here ws i lt e =
    ap Some (take_rest ws (i + 1)) ∙ sym (from_place ws i lt ∙ rest_ends _ _ _ e)

pub broken_here : (ws : List ℕ) (i : ℕ) → i < length ws → endings.Broken ≡ ending_of (quarter (get_or ws i 0)) → None ≡ after_string (drop i ws)
broken_here ws i lt e = sym (from_place ws i lt ∙ rest_broken _ _ _ e)
