-- Chains lead to what their types say, or out of a range.
use Rattle.std.proofs.Common.{◌≡◌, ℕ, suc, Bool, true, false, ◌&&◌, cond, nat_eq, List, [], ◌∷◌, ◌++◌, Some, slice_get, refl, sym, ap, subst, ◌∙◌}
use Rattle.std.proofs.lemmas.Bool.{and_parts, eqb-true}
use Rattle.behavior.specs.Values.{Value, Word, part}
use Rattle.behavior.specs.Meanings.{Ids}
use Rattle.behavior.specs.Operations.{is_negative}
use Rattle.spirv_words.specs.declared.opcodes.Op.TheVariants.{AccessChain}
use Rattle.spirv_words.specs.declared.images.Instruction.{Instruction}
use Rattle.spirv_words.specs.Machine.{Shape, Root, Operand, Plain, Path, InBuffer}
use Rattle.spirv_words.specs.Step.{State, Turn, Goes, IsUndefined, Spot, Byte, Beyond, Nowhere, spot, with_spot, gives, with_some, with_found, with_indices, held, chain, act}
use Rattle.spirv_words.specs.Runs.{setting}
use Rattle.flat_values.specs.Pieces.{Piece, OutOfRange, NoPart, then_piece, piece}
use Rattle.flat_values.specs.Pieces as Pieces
use Rattle.flat_values.proofs.Parts.{composed}
use Rattle.image_lookup.specs.Lookups.{operand, is_value}
use Rattle.image_operands.specs.Operators.{is_int}
use Rattle.image_operands.specs.Memory.{is_pointer, is_index, constant_number, chain_end, chain_fits}
use Rattle.image_declarations.specs.Reach.{is_id, is_buffer_class}
use Rattle.image_types.specs.declared.rules.Rule.TheVariants.{Chain}
use Rattle.image_facts.specs.Alike.{IsLike}
use Rattle.image_facts.specs.Operands.{IsClassOf, LeadsTo, LeadsInto, Suits}
use Rattle.image_facts.proofs.Likes.{part-found, part-outside}
use Rattle.typed_runs.specs.States.{IsTyped, Keeps}
use Rattle.typed_runs.proofs.Facts.{Facts}
use Rattle.typed_runs.proofs.Types.{five_parts}
use Rattle.typed_runs.proofs.Going.{At, AreSeen, all_seen, gives_typed}
use Rattle.typed_runs.proofs.Operands.{keeps_some, keeps_word, word_seen, pointer_of}
use Rattle.typed_runs.proofs.Operators.{rule}
use Rattle.typed_runs.proofs.Paths.{AreWords, IsLed, IsLedTo, led, led_in_buffer, are_indices, path_data}
use Rattle.typed_runs.proofs.Composites.{id_is}
use Rattle.typed_runs.proofs.Memory.{root_holds}

pub keeps_cond : (code : List Instruction) (b : Bool) (x y : Turn) → Keeps code x → Keeps code y → Keeps code (cond b x y)
keeps_cond code true x y h k = h
keeps_cond code false x y h k = k

module _ (code : List Instruction) (facts : Facts code) (ids : Ids) (lengths : ℕ → ℕ → ℕ) where
  -- an index that has a constant number stands for it
  its_number : (s : State) (i w : ℕ) → IsTyped code s → s.ids i ≡ Some (Plain (Word w)) → is_index code i ≡ true → (n : ℕ) → constant_number code i ≡ Some n → w ≡ n
  its_number s i w typed e x n c =
      let both = and_parts (is_value code i) (is_int code (operand code i 0)) x in
      let k = facts.constant i n both.0 c both.1 in
      let f : Some (Plain (Word w)) ≡ Some (Plain (Word n)) = sym e ∙ (typed.declared i k.0 ∙ k.1) in
      cc

  indices : (s : State) (is : List ℕ) (go : List ℕ → Turn) → IsTyped code s → AreSeen code s.place is
      → ((j i : ℕ) → slice_get is j ≡ Some i → is_index code i ≡ true) → ((ws : List ℕ) → AreWords code s.ids is ws → Keeps code (go ws))
      → Keeps code (with_indices (setting code ids lengths) s.ids is go)
  indices s [] go typed q x k = k [] tt
  indices s (i ∷ is) go typed q x k =
      let h = x 0 i refl in
      let both = and_parts (is_value code i) (is_int code (operand code i 0)) h in
      let w = word_seen code facts s i (operand code i 0) typed (q 0 i refl both.0) refl both.1 in
      keeps_word code (s.ids i) w.0
      (λ v. cond ((setting code ids lengths).signed i && is_negative v) IsUndefined (with_indices (setting code ids lengths) s.ids is (λ ws. go (v ∷ ws)))) w.1
      (keeps_cond code ((setting code ids lengths).signed i && is_negative w.0) IsUndefined
      (with_indices (setting code ids lengths) s.ids is (λ ws. go (w.0 ∷ ws))) tt
      (indices s is (λ ws. go (w.0 ∷ ws)) typed (λ j y e v. q (suc j) y e v) (λ j y e. x (suc j) y e)
      (λ ws a. k (w.0 ∷ ws) (its_number s i w.0 typed w.1, a))))

  -- ---- variables

  led_on : (s : State) (t r p of : ℕ) (is : List ℕ) (root : Root) (path : List ℕ) (v : Value) (h : LeadsTo code root path of)
      → At code s AccessChain (t ∷ r ∷ p ∷ is) → is_pointer code t ≡ true → operand code t 1 ≡ operand code of 1
      → IsLike v h.whole → (ws : List ℕ) (q : Piece) → piece h.whole (path ++ ws) 0 ≡ q → IsLed code q (operand code t 2)
      → Keeps code (with_found (part v (path ++ ws)) (λ w. Goes (gives s r (Path root (path ++ ws)))))
  led_on s t r p of is root path v h a pointer c like ws (Pieces.At place form) e l =
      let f = part-found v h.whole form (path ++ ws) 0 place like e in
      subst (λ x. Keeps code (with_found x (λ w. Goes (gives s r (Path root (path ++ ws)))))) (sym f.1)
      (gives_typed code facts s AccessChain (p ∷ is) t r (Path root (path ++ ws)) a refl refl (record {
        leads = pointer;
        class = subst (IsClassOf code root) (sym c) h.class;
        whole = h.whole;
        holds = h.holds;
        plain = h.plain;
        place = place;
        part = form;
        found = e;
        is = l;
      }))
  led_on s t r p of is root path v h a pointer c like ws OutOfRange e l =
      subst (λ x. Keeps code (with_found x (λ w. Goes (gives s r (Path root (path ++ ws)))))) (sym (part-outside v h.whole (path ++ ws) 0 like e)) tt
  led_on s t r p of is root path v h a pointer c like ws NoPart e l = absurd l

  -- ---- buffers

  led_within : (s : State) (t r p of set binding : ℕ) (is : List ℕ) (form : Shape) → LeadsInto code set binding form of
      → At code s AccessChain (t ∷ r ∷ p ∷ is) → is_pointer code t ≡ true → operand code t 1 ≡ operand code of 1 → (q : Spot)
      → IsLedTo code q (operand code t 2) → Keeps code (with_spot q (λ n to. Goes (gives s r (InBuffer set binding n to))))
  led_within s t r p of set binding is form h a pointer c (Byte n to) l =
      gives_typed code facts s AccessChain (p ∷ is) t r (InBuffer set binding n to) a refl refl (record {
        leads = pointer;
        class = ap is_buffer_class c ∙ h.class;
        is = l;
        variable = h.variable;
        buffer = h.buffer;
        its_set = h.its_set;
        its_binding = h.its_binding;
      })
  led_within s t r p of set binding is form h a pointer c Beyond l = tt
  led_within s t r p of set binding is form h a pointer c Nowhere l = absurd l

  -- ---- a chain

  chain_case : (s : State) (t r p of : ℕ) (is : List ℕ) (o : Operand) → At code s AccessChain (t ∷ r ∷ p ∷ is) → Suits code o of
      → is_pointer code of ≡ true → is_pointer code t ≡ true → operand code t 1 ≡ operand code of 1
      → chain_end code (operand code of 2) is ≡ Some (operand code t 2) → AreSeen code s.place is
      → Keeps code (chain (setting code ids lengths) s r (Some o) is)
  chain_case s t r p of is (Plain v) a h from to c e q = absurd (facts.no_pointer of h.has_values from)
  chain_case s t r p of is (Path root path) a h from to c e q =
      let v = root_holds code facts ids lengths s root h.whole (operand code of 1) a.typed h.class h.holds in
      indices s is (λ ws. with_some (held (setting code ids lengths) s root) (λ v. with_found (part v (path ++ ws)) (λ w. Goes (gives s r (Path root (path ++ ws))))))
      a.typed q (are_indices code facts s.ids is (operand code of 2) (operand code t 2) e)
      (λ ws k. keeps_some code (held (setting code ids lengths) s root) v.value
      (λ v. with_found (part v (path ++ ws)) (λ w. Goes (gives s r (Path root (path ++ ws))))) v.is
      (led_on s t r p of is root path v.value h a to c v.like ws (piece h.part ws h.place)
      (composed h.whole path ws 0 ∙ ap (λ x. then_piece x (λ place form. piece form ws place)) h.found)
      (led code facts s.ids is ws (operand code of 2) (operand code t 2) h.place h.part k e h.is
      (path_data h.whole h.part path 0 h.place h.plain h.found))))
  chain_case s t r p of is (InBuffer set binding byte form) a h from to c e q =
      indices s is (λ ws. with_spot (spot (lengths set binding) form ws byte) (λ n to. Goes (gives s r (InBuffer set binding n to))))
      a.typed q (are_indices code facts s.ids is (operand code of 2) (operand code t 2) e)
      (λ ws k. led_within s t r p of set binding is form h a to c (spot (lengths set binding) form ws byte)
      (led_in_buffer code facts s.ids (lengths set binding) is ws (operand code of 2) (operand code t 2) byte form k e h.is))

  pub chain_keeps : (s : State) (t r p : ℕ) (is : List ℕ) → At code s AccessChain (t ∷ r ∷ p ∷ is)
      → Keeps code (act (setting code ids lengths) AccessChain (t ∷ r ∷ p ∷ is) s)
  unfolding chain_fits
  chain_keeps s t r p is a =
      let of : ℕ = operand code p 0 in
      let all = five_parts (is_pointer code t) (is_value code p) (is_pointer code of) (nat_eq (operand code t 1) (operand code of 1))
      (is_id (chain_end code (operand code of 2) is) (operand code t 2)) (rule code facts s AccessChain (t ∷ r ∷ p ∷ is) Chain a refl) in
      let o = pointer_of code facts s AccessChain (t ∷ r ∷ p ∷ is) 2 p of a (record { stands = refl; role = refl }) all.1 refl all.2 in
      let seen = all_seen code facts s AccessChain t r (p ∷ is) a refl refl refl in
      subst (λ x. Keeps code (chain (setting code ids lengths) s r x is)) (sym o.1)
      (chain_case s t r p of is o.0 a o.2 all.2 all.0 (eqb-true (operand code t 1) (operand code of 1) all.3)
      (id_is (chain_end code (operand code of 2) is) (operand code t 2) all.4) (λ j x e v. seen (suc j) x e v))
