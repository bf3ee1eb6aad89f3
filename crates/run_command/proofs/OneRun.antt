-- A run comes to one thing at most.
use Rattle.std.proofs.Common.{◌≡◌, ◌≢◌, ℕ, ◌<◌, ◌≤◌, ◌%◌, List, length, Option, Some, None, Result, Ok, Err, refl, sym, ap, ◌∙◌, subst, arith}
use Rattle.slang_names.specs.declared.faults.RunCause.{RunCause}
use Rattle.slang_names.specs.declared.faults.RunCause.TheVariants.{NoEntry, BufferText}
use Rattle.slang_store.specs.Contents.{Contents}
use Rattle.spirv_words.specs.declared.images.Image.{Image}
use Rattle.spirv_words.specs.declared.faults.ImageCode.{ImageCode}
use Rattle.spirv_words.specs.Words.{Spells}
use Rattle.spirv_words.specs.Unread.{FirstUnread}
use Rattle.spirv_check.specs.Valid.{Valid, FirstInvalid}
use Rattle.spirv_check.specs.Entry.{entry_name}
use Rattle.run_buffers.specs.declared.buffer.Buffer.{Buffer}
use Rattle.run_buffers.specs.declared.faults.RunFault.{RunFault}
use Rattle.run_buffers.specs.declared.faults.RunFault.TheVariants as fault
use Rattle.run_buffers.specs.Texts.{IsTextOf, RefusedAt, text_of}
use Rattle.spirv_run.specs.declared.ran.Ran.{Ran as Counts}
use Rattle.spirv_run.specs.Dispatch.{IsDispatch}
use Rattle.run_command.specs.Requests.{RunRequest}
use Rattle.run_command.specs.Files.{HoldsImage, WrongImage, WrongBuffers, unread, invalid, no_whole_words, file_limit}
use Rattle.run_command.specs.Files as file
use Rattle.run_command.specs.Answers.{Came, ImageRefused, InputRefused, Ran, OfDispatch, refused, undefined, budget, ran, OverImage, no_entry, wrong_buffers, dispatched, OverFiles, wrong_image, over_image, Comes, no_image, no_buffers, over_files}

-- what the layers below say
pub record Laws : Type 0 where
  pub one_image : (words : List ℕ) (a b : Image) → Spells words a → Spells words b → a ≡ b
  pub one_fault : (words : List ℕ) (p q : ℕ) (c d : ImageCode) → FirstUnread words p c → FirstUnread words q d → (p ≡ q) × (c ≡ d)
  pub not_both : (words : List ℕ) (image : Image) (place : ℕ) (code : ImageCode) → Spells words image → FirstUnread words place code → ⊥
  pub one_invalid : (image : Image) (p q : ℕ) (c d : ImageCode) → FirstInvalid image p c → FirstInvalid image q d → (p ≡ q) × (c ≡ d)
  pub never_valid : (image : Image) (place : ℕ) (code : ImageCode) → Valid image → FirstInvalid image place code → ⊥
  pub one_text : (bytes : List ℕ) (a b : List Buffer) → IsTextOf bytes a → IsTextOf bytes b → a ≡ b
  pub one_refusal : (bytes : List ℕ) (p q : ℕ) → RefusedAt bytes p → RefusedAt bytes q → p ≡ q
  pub no_text : (bytes : List ℕ) (bs : List Buffer) (p : ℕ) → IsTextOf bytes bs → RefusedAt bytes p → ⊥
  pub one_dispatch : (image : Image) (entry groups : List ℕ) (steps : ℕ) (before s t : List Buffer) (x y : Result Counts RunFault) →
      IsDispatch image entry groups steps before x s → IsDispatch image entry groups steps before y t → (x ≡ y) × (s ≡ t)

same_bytes : {o : Option (List ℕ)} {s t : List ℕ} → o ≡ Some s → o ≡ Some t → s ≡ t
same_bytes p q = (let e = sym p ∙ q in cc)

no_bytes : {A : Type 0} {o : Option (List ℕ)} {t : List ℕ} → o ≡ None → o ≡ Some t → A
no_bytes p q = absurd (let e = sym p ∙ q in cc)

module _ (laws : Laws) where
  abbrev Same : ℕ → ℕ → ImageCode → ImageCode → Type 0
  Same p q c d = (p ≡ q) × (c ≡ d)

  module _ (bytes : List ℕ) (p q : ℕ) (c d : ImageCode) where
    one_wrong : WrongImage bytes p c → WrongImage bytes q d → Same p q c d
    one_wrong (file.too_long l a x) (file.too_long k b y) = (a ∙ sym b, x ∙ sym y)
    one_wrong (file.too_long l a x) (no_whole_words k n b y) = absurd (omega arith)
    one_wrong (file.too_long l a x) (unread k n u) = absurd (omega arith)
    one_wrong (file.too_long l a x) (invalid i k n s u) = absurd (omega arith)
    one_wrong (no_whole_words l m a x) (file.too_long k b y) = absurd (omega arith)
    one_wrong (no_whole_words l m a x) (no_whole_words k n b y) = (a ∙ sym b, x ∙ sym y)
    one_wrong (no_whole_words l m a x) (unread k n u) = absurd (m n)
    one_wrong (no_whole_words l m a x) (invalid i k n s u) = absurd (m n)
    one_wrong (unread l m u) (file.too_long k b y) = absurd (omega arith)
    one_wrong (unread l m u) (no_whole_words k n b y) = absurd (n m)
    one_wrong (unread l m u) (unread k n v) = laws.one_fault _ p q c d u v
    one_wrong (unread l m u) (invalid i k n s v) = absurd (laws.not_both _ i p c s u)
    one_wrong (invalid i l m s u) (file.too_long k b y) = absurd (omega arith)
    one_wrong (invalid i l m s u) (no_whole_words k n b y) = absurd (n m)
    one_wrong (invalid i l m s u) (unread k n v) = absurd (laws.not_both _ i q d s v)
    one_wrong (invalid i l m s u) (invalid j k n t v) =
        laws.one_invalid j p q c d (subst (λ (x : Image). FirstInvalid x p c) (laws.one_image _ i j s t) u) v

  held_or_wrong : (bytes : List ℕ) (image : Image) (p : ℕ) (c : ImageCode) → HoldsImage bytes image → WrongImage bytes p c → ⊥
  held_or_wrong bytes image p c h (file.too_long l a x) = let s = h.words.short in omega arith
  held_or_wrong bytes image p c h (no_whole_words l m a x) = m h.words.whole
  held_or_wrong bytes image p c h (unread l m u) = laws.not_both _ image p c h.words.spelled u
  held_or_wrong bytes image p c h (invalid i l m s u) =
      laws.never_valid i p c (subst (λ (x : Image). Valid x) (laws.one_image _ image i h.words.spelled s) h.valid) u

  one_place : (bytes : List ℕ) (p q : ℕ) → WrongBuffers bytes p → WrongBuffers bytes q → p ≡ q
  one_place bytes p q (file.too_long l a) (file.too_long k b) = a ∙ sym b
  one_place bytes p q (file.too_long l a) (file.refused k r) = absurd (omega arith)
  one_place bytes p q (file.refused l r) (file.too_long k b) = absurd (omega arith)
  one_place bytes p q (file.refused l r) (file.refused k s) = laws.one_refusal bytes p q r s

  text_or_wrong : (bytes : List ℕ) (bs : List Buffer) (p : ℕ) → IsTextOf bytes bs → WrongBuffers bytes p → ⊥
  text_or_wrong bytes bs p t (file.too_long l a) = let s = t.short in omega arith
  text_or_wrong bytes bs p t (file.refused l r) = laws.no_text bytes bs p t r

  module _ (image : Image) (r : RunRequest) (memory : List Buffer) where
    once : (x y : Result Counts RunFault) (s t : List Buffer) → IsDispatch image r.entry r.groups r.steps memory x s → IsDispatch image r.entry r.groups r.steps memory y t → (x ≡ y) × (s ≡ t)
    once x y s t h k = laws.one_dispatch image r.entry r.groups r.steps memory s t x y h k

    one_of : (a b : Came) → OfDispatch image r memory a → OfDispatch image r memory b → a ≡ b
    one_of _ _ (refused {cause = c} h) (refused {cause = d} k) = let e = (once _ _ _ _ h k).0 in cc
    one_of _ _ (refused h) (undefined k) = absurd (let e = (once _ _ _ _ h k).0 in cc)
    one_of _ _ (refused h) (budget k) = absurd (let e = (once _ _ _ _ h k).0 in cc)
    one_of _ _ (refused h) (ran k) = absurd (let e = (once _ _ _ _ h k).0 in cc)
    one_of _ _ (undefined h) (refused k) = absurd (let e = (once _ _ _ _ h k).0 in cc)
    one_of _ _ (undefined h) (undefined k) = let e = (once _ _ _ _ h k).0 in cc
    one_of _ _ (undefined h) (budget k) = absurd (let e = (once _ _ _ _ h k).0 in cc)
    one_of _ _ (undefined h) (ran k) = absurd (let e = (once _ _ _ _ h k).0 in cc)
    one_of _ _ (budget h) (refused k) = absurd (let e = (once _ _ _ _ h k).0 in cc)
    one_of _ _ (budget h) (undefined k) = absurd (let e = (once _ _ _ _ h k).0 in cc)
    one_of _ _ (budget h) (budget k) = let e = (once _ _ _ _ h k).0 in cc
    one_of _ _ (budget h) (ran k) = absurd (let e = (once _ _ _ _ h k).0 in cc)
    one_of _ _ (ran h) (refused k) = absurd (let e = (once _ _ _ _ h k).0 in cc)
    one_of _ _ (ran h) (undefined k) = absurd (let e = (once _ _ _ _ h k).0 in cc)
    one_of _ _ (ran h) (budget k) = absurd (let e = (once _ _ _ _ h k).0 in cc)
    one_of _ _ (ran {counts = x} {after = s} h) (ran {counts = y} {after = t} k) =
        let e = once _ _ _ _ h k in
        let same : x ≡ y = (let f = e.0 in cc) in
        ap (λ (p : Counts). Ran (text_of s) p.invocations p.steps) same ∙ ap (λ (l : List Buffer). Ran (text_of l) y.invocations y.steps) e.1

  module _ (image : Image) (r : RunRequest) (text : List ℕ) where
    one_over : (a b : Came) → OverImage image r text a → OverImage image r text b → a ≡ b
    one_over _ _ (no_entry n) (no_entry m) = refl
    one_over _ _ (no_entry n) (wrong_buffers e w) = absurd (n e)
    one_over _ _ (no_entry n) (dispatched e t d) = absurd (n e)
    one_over _ _ (wrong_buffers e w) (no_entry n) = absurd (n e)
    one_over _ _ (wrong_buffers e v) (wrong_buffers f w) = ap (λ (p : ℕ). InputRefused (BufferText p)) (one_place text _ _ v w)
    one_over _ _ (wrong_buffers e w) (dispatched f t d) = absurd (text_or_wrong text _ _ t w)
    one_over _ _ (dispatched e t d) (no_entry n) = absurd (n e)
    one_over _ _ (dispatched e t d) (wrong_buffers f w) = absurd (text_or_wrong text _ _ t w)
    one_over a b (dispatched {memory = x} e s c) (dispatched {memory = y} f t d) =
        one_of image r y a b (subst (λ (l : List Buffer). OfDispatch image r l a) (laws.one_text text x y s t) c) d

  module _ (r : RunRequest) (code text : List ℕ) where
    one_of_files : (a b : Came) → OverFiles r code text a → OverFiles r code text b → a ≡ b
    one_of_files _ _ (wrong_image {place = p} {why = c} v) (wrong_image {place = q} {why = d} w) =
        let e = one_wrong code p q c d v w in
        ap (λ (x : ℕ). ImageRefused x c) e.0 ∙ ap (λ (x : ImageCode). ImageRefused q x) e.1
    one_of_files _ _ (wrong_image w) (over_image h o) = absurd (held_or_wrong code _ _ _ h w)
    one_of_files _ _ (over_image h o) (wrong_image w) = absurd (held_or_wrong code _ _ _ h w)
    one_of_files a b (over_image {image = x} g o) (over_image {image = y} h p) =
        one_over y r text a b (subst (λ (i : Image). OverImage i r text a) (laws.one_image _ x y g.words.spelled h.words.spelled) o) p

  module _ (m : Contents) (r : RunRequest) where
    pub one_run : (a b : Came) → Comes m r a → Comes m r b → a ≡ b
    one_run _ _ (no_image p) (no_image q) = refl
    one_run _ _ (no_image p) (no_buffers q s) = no_bytes p q
    one_run _ _ (no_image p) (over_files q s o) = no_bytes p q
    one_run _ _ (no_buffers p s) (no_image q) = no_bytes q p
    one_run _ _ (no_buffers p s) (no_buffers q t) = refl
    one_run _ _ (no_buffers p s) (over_files q t o) = no_bytes s t
    one_run _ _ (over_files p s o) (no_image q) = no_bytes q p
    one_run _ _ (over_files p s o) (no_buffers q t) = no_bytes t s
    one_run a b (over_files {code = c} {text = x} p s o) (over_files {code = d} {text = y} q t o2) =
        one_of_files r d y a b (subst (λ (k : List ℕ). OverFiles r k y a) (same_bytes p q) (subst (λ (k : List ℕ). OverFiles r c k a) (same_bytes s t) o)) o2
