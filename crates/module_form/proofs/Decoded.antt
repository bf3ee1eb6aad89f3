-- What decode answers.
use Rattle.std.proofs.Common.{◌≡◌, ℕ, ◌+◌, ◌<◌, ◌≤◌, ◌⊎◌, inl, inr, List, [], ◌∷◌, ◌++◌, length, Result, Ok, Err, refl, sym, ap, subst, ◌∙◌, arith}
use Rattle.std.specs.Prelude.{IfOk}
use Rattle.std.specs.declared.alloc.AllocError.{AllocError}
use Rattle.std.proofs.lemmas.List.{append-nil, length-append}
use Rattle.slang_names.specs.declared.form_codes.FormCode.{FormCode}
use Rattle.slang_names.specs.declared.form_codes.FormCode.TheVariants.{FormLimit, Trailing}
use Rattle.slang_core.specs.declared.declarations.CoreModule.{CoreModule}
use Rattle.slang_core.specs.ModuleTrees.{module_tree}
use Rattle.form_grammar.specs.declared.codes.Stop.{Stop}
use Rattle.form_grammar.specs.Trees.{Tree, spelling}
use Rattle.form_grammar.specs.Grammar.{module_form}
use Rattle.form_laws.specs.Refusals.{IsBytes}
use Rattle.form_laws.proofs.Same.{same}
use Rattle.form_laws.proofs.Takes.{found, stopped, takes}
use Rattle.form_laws.proofs.Refusals.{module_sound, module_stops}
use Rattle.form_refusals.specs.Refused.{RefusedAt, Spells, most_bytes}
use Rattle.form_refusals.proofs.Refused.{Reading, refused_where, trailing_where, long_stop, long_module, one_where, module_not}
use Rattle.core_laws.proofs.Modules.{module_tells}
use Rattle.module_form.specs.declared.faults.FormFault.{FormFault}
use Rattle.module_form.specs.declared.faults.FormFault.TheVariants as fault
use Rattle.module_form.specs.Stored.{StoredForm, FitsLimits, IsMemory}

-- ---- laws

pub one_module : (m n : CoreModule) (a b : List ℕ) (s t : List ℕ) → StoredForm m s → StoredForm n t → s ++ a ≡ t ++ b → (m ≡ n) × (a ≡ b)
one_module m n a b s t p q e =
    let h = same (module_tree m) module_form (module_tree n) a b p.0 q.0 (ap (λ z. z ++ a) (sym p.1) ∙ (e ∙ ap (λ z. z ++ b) q.1)) in
    (module_tells m n h.0, h.1)

pub same_core : (m n : CoreModule) (bytes : List ℕ) → StoredForm m bytes → StoredForm n bytes → m ≡ n
same_core m n bytes p q = (one_module m n [] [] bytes bytes p q refl).0

-- ---- what the clauses of decode say

abbrev pub Answer : Type 0
Answer = Result CoreModule FormFault

abbrev pub refused_answer : ℕ → FormCode → Answer
refused_answer place code = Err (fault.Refused place code)

pub record Decodes (bytes : List ℕ) (r : Answer) : Type 0 where
  pub spelled : IfOk r (λ m. StoredForm m bytes × FitsLimits m)
  pub refusal : (place : ℕ) (code : FormCode) → r ≡ Err (fault.Refused place code) → RefusedAt bytes place code
  pub each_module : (m : CoreModule) → StoredForm m bytes → FitsLimits m → (r ≡ Ok m) ⊎ IsMemory r
  pub each_refusal : (place : ℕ) (code : FormCode) → RefusedAt bytes place code → (r ≡ Err (fault.Refused place code)) ⊎ IsMemory r

refused_is : {p q : ℕ} {c d : FormCode} → (p ≡ q) × (c ≡ d) → refused_answer p c ≡ refused_answer q d
refused_is {q = q} {c = c} e = ap (λ z. refused_answer z c) e.0 ∙ ap (λ z. refused_answer q z) e.1

parts_of : {p q : ℕ} {c d : FormCode} → refused_answer p c ≡ refused_answer q d → (p ≡ q) × (c ≡ d)
parts_of e = (cc, cc)

pub decodes_refused : (bytes : List ℕ) (place : ℕ) (code : FormCode) → RefusedAt bytes place code → Decodes bytes (refused_answer place code)
decodes_refused bytes place code r = record {
  spelled = tt;
  refusal = λ p c e. let h = parts_of e in subst (λ z. RefusedAt bytes z c) h.0 (subst (λ z. RefusedAt bytes place z) h.1 r);
  each_module = λ m s f. absurd (module_not bytes (module_tree m) place code (s.0, f.0, s.1, omega (arith, f.1, ap length s.1)) r);
  each_refusal = λ p c q. inl (refused_is (one_where bytes place p code c r q));
}

pub decodes_module : (bytes : List ℕ) (m : CoreModule) → Spells (module_tree m) bytes → Decodes bytes (Ok m)
decodes_module bytes m s = record {
  spelled = ((s.0, s.2), (s.1, omega (arith, s.3, ap length s.2)));
  refusal = λ p c e. absurd cc;
  each_module = λ n t f. inl (ap (λ z. Ok z) (same_core m n bytes (s.0, s.2) t));
  each_refusal = λ p c q. absurd (module_not bytes (module_tree m) p c s q);
}

pub decodes_memory : (bytes : List ℕ) (e : AllocError) → Decodes bytes (Err (fault.Memory e))
decodes_memory bytes e = record {
  spelled = tt;
  refusal = λ p c q. absurd cc;
  each_module = λ n t f. inr tt;
  each_refusal = λ p c q. inr tt;
}

-- ---- what reading finds

pub read_length : (bytes : List ℕ) (x : Tree) (rest : List ℕ) → IsBytes bytes → Reading bytes ≡ found x rest → length (spelling x) + length rest ≡ length bytes
read_length bytes x rest p e = let t = takes 128 module_form bytes x rest module_sound p e in omega (arith, ap length t.parts, length-append (spelling x) rest)

pub stop_left : (bytes : List ℕ) (s : Stop) → IsBytes bytes → Reading bytes ≡ stopped s → s.left ≤ length bytes
stop_left bytes s p e = let t = module_stops bytes s p e in omega (arith, t.left, ap length t.parts, length-append t.front t.back)

pub reads_module : (bytes : List ℕ) (m : CoreModule) (rest : List ℕ) → IsBytes bytes → Reading bytes ≡ found (module_tree m) rest → length rest ≡ 0 → length bytes ≤ most_bytes → Decodes bytes (Ok m)
reads_module bytes m [] p e n l =
    let t = takes 128 module_form bytes (module_tree m) [] module_sound p e in
    decodes_module bytes m (t.form, t.fits, t.parts ∙ append-nil (spelling (module_tree m)), l)
reads_module bytes m (b ∷ rest) p e n l = absurd (omega arith)

pub reads_more : (bytes : List ℕ) (x : Tree) (rest : List ℕ) (place : ℕ) → IsBytes bytes → Reading bytes ≡ found x rest → 0 < length rest → place + length rest ≡ length bytes → place < most_bytes → Decodes bytes (refused_answer place Trailing)
reads_more bytes x [] place p e n l h = absurd (omega arith)
reads_more bytes x (b ∷ rest) place p e n l h =
    let k : length (spelling x) ≡ place = omega (arith, read_length bytes x (b ∷ rest) p e) in
    decodes_refused bytes place Trailing (subst (λ z. RefusedAt bytes z Trailing) k (trailing_where bytes x b rest p e (omega (arith, k))))

pub reads_long : (bytes : List ℕ) (x : Tree) (rest : List ℕ) (place : ℕ) → IsBytes bytes → Reading bytes ≡ found x rest → place + length rest ≡ length bytes → most_bytes ≤ place → most_bytes < length bytes → Decodes bytes (refused_answer most_bytes FormLimit)
reads_long bytes x rest place p e l h k = decodes_refused bytes most_bytes FormLimit (long_module bytes x rest p e (omega (arith, read_length bytes x rest p e)) k)

pub stops_late : (bytes : List ℕ) (s : Stop) (place : ℕ) → IsBytes bytes → Reading bytes ≡ stopped s → place + s.left ≡ length bytes → most_bytes ≤ place → most_bytes < length bytes → Decodes bytes (refused_answer most_bytes FormLimit)
stops_late bytes s place p e l h k = decodes_refused bytes most_bytes FormLimit (long_stop bytes s p e (omega arith) k)

pub stops_here : (bytes : List ℕ) (s : Stop) (place : ℕ) → IsBytes bytes → Reading bytes ≡ stopped s → place + s.left ≡ length bytes → (place < most_bytes) ⊎ (length bytes ≤ most_bytes) → Decodes bytes (refused_answer place s.code)
stops_here bytes s place p e l w = decodes_refused bytes place s.code (refused_where bytes s place p e l w)
