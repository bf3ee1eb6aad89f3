-- Paths into composites, part by part.
use Rattle.std.proofs.Common.{◌≡◌, ℕ, ◌+◌, List, [], ◌∷◌, Option, Some, None, refl, sym, ap, ◌∙◌, arith}
use Rattle.spirv_words.specs.declared.images.Instruction.{Instruction}
use Rattle.spirv_words.specs.Machine.{Shape, if_some}
use Rattle.flat_values.specs.Pieces.{Piece, piece, then_piece}
use Rattle.run_actions.specs.declared.actions.Action.TheVariants.{Copy, Never}
use Rattle.image_lookup.specs.Lookups.{sort}
use Rattle.image_operands.specs.Composites.{literal_part_at, literal_part_by, extract_end}
use Rattle.image_facts.specs.Operands.{shape, type_id}
use Rattle.run_rooms.specs.Rooms.{Rooms, size_of}
use Rattle.run_plans.specs.Actions.{extract_by, extract_of}
use Rattle.run_plans.specs.Walks.{HasShape, IsPart, IsPath, IsPathOf, IsOnPath, IsThere}

none_more : (k : ℕ) → k + 0 ≡ k
none_more k = omega arith

regroup : (a b c : ℕ) → a + b + c ≡ a + (b + c)
regroup a b c = omega arith

module _ (code : List Instruction) (s : Shape) (path : List ℕ) where
  pub path_begins : (t : ℕ) → shape code t ≡ Some s → IsOnPath code s path t 0 path
  path_begins t e = record { form = s; is = e; at = λ from. ap (piece s path) (sym (none_more from)) }

  pub path_goes : (t n part at more now : ℕ) (rest : List ℕ) → IsOnPath code s path t at (n ∷ rest) → IsPart code t n part more → now ≡ at + more
      → IsOnPath code s path part now rest
  path_goes t n part at more now rest p is e =
      let next = is p.form p.is in
      record {
        form = next.form;
        is = next.is;
        at = λ from. p.at from ∙ ap (λ (q : Piece). then_piece q (λ place of. piece of rest place)) (next.at (from + at))
            ∙ ap (piece next.form rest) (regroup from at more) ∙ ap (λ k. piece next.form rest (from + k)) (sym e);
      }

  pub path_ends : (t at : ℕ) → IsOnPath code s path t at [] → IsPathOf code s path t at
  path_ends t at p = record { form = p.form; is = p.is; at = p.at }

-- the action that takes out a part
pub extract_is : (code : List Instruction) (L : Rooms) (t to composite part place from : ℕ) (path : List ℕ) → HasShape code (type_id code composite)
    → IsPath code (type_id code composite) path part place → from ≡ L.slot composite + place
    → Copy (record { from = from; to = L.slot to; count = size_of code t }) ≡ extract_of code L t to composite path
extract_is code L t to composite part place from path h p e =
    let q = p h.0 h.1 in
    sym (ap (λ (o : Option Shape). if_some o Never (λ s. extract_by code L (piece s path (L.slot composite)) to (size_of code t))) h.1
    ∙ ap (λ (q : Piece). extract_by code L q to (size_of code t)) (q.at (L.slot composite))
    ∙ ap (λ from. Copy (record { from = from; to = L.slot to; count = size_of code t })) (sym e))

-- ---- where paths of numbers lead

by_sort : (code : List Instruction) (t n : ℕ) → literal_part_at code t n ≡ literal_part_by code (sort code t) t n
unfolding literal_part_at
by_sort code t n = refl

-- the first number of a path leads to a part
pub path_there : (code : List Instruction) (t n end : ℕ) (ns : List ℕ) → extract_end code t (n ∷ ns) ≡ Some end
    → IsThere (literal_part_by code (sort code t) t n)
path_there code t n end ns e = by (literal_part_at code t n) (by_sort code t n) e
  where
    by : (o : Option ℕ) → o ≡ literal_part_by code (sort code t) t n → if_some o None (λ part. extract_end code part ns) ≡ Some end
        → IsThere (literal_part_by code (sort code t) t n)
    by None f e = absurd (never e)
      where
        never : None ≡ Some end → ⊥
        never e = cc
    by (Some part) f e = record { it = part; is = sym f }

-- and the rest leads on from there
pub path_on : (code : List Instruction) (t n part : ℕ) (ns : List ℕ) → literal_part_by code (sort code t) t n ≡ Some part
    → extract_end code t (n ∷ ns) ≡ extract_end code part ns
path_on code t n part ns e = ap (λ (o : Option ℕ). if_some o None (λ part. extract_end code part ns)) (by_sort code t n ∙ e)
