-- What begins at a token that a limit or a rule on attributes may refuse: which break is told.
use Rattle.std.proofs.Common.{Bool, true, false, ◌≡◌, ℕ, ◌+◌, List, drop, length, Option, Some, refl, sym, ap, subst, [], ◌∷◌, ◌++◌}
use Rattle.std.specs.Prelude.{nat_le, nat_lt}
use Rattle.slang_names.specs.declared.places.Place.{Place}
use Rattle.slang_names.specs.declared.codes.ModuleCode.{ModuleCode}
use Rattle.slang_names.specs.declared.codes.ModuleCode.TheVariants as code
use Rattle.slang_tree.specs.declared.types.Identifier.{Identifier}
use Rattle.slang_tree.specs.declared.statements.Attribute.{Attribute}
use Rattle.slang_tokens.specs.declared.tokens.Kind.TheVariants as k
use Rattle.slang_tokens.specs.declared.tokens.Word.{Word}
use Rattle.slang_reading.specs.Lexed.{Lexed}
use Rattle.slang_reading.specs.Reading.{Parser, Choice, Leave, Take, if_fits, ◌>>=◌, first, place_of, pure, next}
use Rattle.slang_reading.proofs.Exact.{Reads, reads_pure}
use Rattle.slang_grammar.specs.Standing.{Stands, NameStands}
use Rattle.slang_grammar.specs.Descent.{Limits, fits_in, is_short, if_short}
use Rattle.statement_grammar.specs.declared.attributes.Target.{Target}
use Rattle.statement_grammar.specs.Attributes.{AttributesAt}
use Rattle.statement_grammar.specs.AttributesDescent.{if_suits}
use Rattle.expression_limits.specs.Breaks.{Break, unless, item_behind, name_there}
use Rattle.expression_limits.proofs.Telling.{Tells, TellsChoice, tells_reads, tells_last, tells_next, tells_take, tells_take_last, fits_is, short_is}
use Rattle.statement_limits.specs.Attributes.{misfit_breaks}
use Rattle.statement_limits.proofs.Attributes.{noted_in, tells_suits, tells_suits_left}

differ : {A : Type 0} → true ≡ false → A
differ e = absurd (clash e)
  where
    clash : true ≡ false → ⊥
    clash e = cc

module _ (ts : List Lexed) where
  -- what is read is answered as f of it
  pub tells_map : {A B : Type 0} {bs : List Break} (f : A → B) (q : Parser A) (at seen : ℕ) (a : A) (to : ℕ) → Tells bs q ts at seen a to → Tells bs (q >>= (λ y. pure (f y))) ts at seen (f a) to
  tells_map f q at seen a to r = tells_last ts q _ at seen to to a (f a) r (λ s1. reads_pure ⊥ ts (f a) to s1)

  -- what begins at a token and goes on where it fits
  pub tells_leave : {A : Type 0} {bs : List Break} (at : ℕ) (a : A) (to : ℕ) (x : Option Lexed) (test claim : Bool) (k : ModuleCode) (p : Parser A) → first (drop at ts) ≡ x → test ≡ claim →
      ((seen : ℕ) → Tells bs p ts at seen a to) → TellsChoice ts (unless ts claim k at ++ bs) at a to x (if_fits test k x (Leave p))
  tells_leave at a to x true true k p e q h = h
  tells_leave at a to x false false k p e q h = (refl, ap place_of (sym e))
  tells_leave at a to x true false k p e q h = differ q
  tells_leave at a to x false true k p e q h = differ (sym q)

  -- and with two tests of one code
  pub tells_both : {A : Type 0} {bs : List Break} (at : ℕ) (a : A) (to : ℕ) (t : Lexed) (test claim test2 claim2 : Bool) (k : ModuleCode) (p : Parser A) → first (drop at ts) ≡ Some t → test ≡ claim → test2 ≡ claim2 →
      ((seen : ℕ) → Tells bs p ts (at + 1) seen a to) →
      TellsChoice ts (unless ts claim k at ++ (unless ts claim2 k at ++ bs)) at a to (Some t) (if_fits test k (Some t) (if_fits test2 k (Some t) (Take p)))
  tells_both at a to t true true test2 claim2 k p e q r h = tells_take ts at a to t test2 claim2 k p e r h
  tells_both at a to t false false true claim2 k p e q r h = (refl, ap place_of (sym e))
  tells_both at a to t false false false claim2 k p e q r h = (refl, ap place_of (sym e))
  tells_both at a to t true false test2 claim2 k p e q r h = differ q
  tells_both at a to t false true test2 claim2 k p e q r h = differ (sym q)

  -- and nothing is broken behind it
  pub tells_both_last : {A : Type 0} (at : ℕ) (a : A) (to : ℕ) (t : Lexed) (test claim test2 claim2 : Bool) (k : ModuleCode) (p : Parser A) → first (drop at ts) ≡ Some t → test ≡ claim → test2 ≡ claim2 →
      ((seen : ℕ) → Reads ⊥ p ts (at + 1) seen a to) →
      TellsChoice ts (unless ts claim k at ++ unless ts claim2 k at) at a to (Some t) (if_fits test k (Some t) (if_fits test2 k (Some t) (Take p)))
  tells_both_last at a to t true true test2 claim2 k p e q r h = tells_take_last ts at a to t test2 claim2 k p e r h
  tells_both_last at a to t false false true claim2 k p e q r h = (refl, ap place_of (sym e))
  tells_both_last at a to t false false false claim2 k p e q r h = (refl, ap place_of (sym e))
  tells_both_last at a to t true false test2 claim2 k p e q r h = differ q
  tells_both_last at a to t false true test2 claim2 k p e q r h = differ (sym q)

  module _ (limits : Limits) (free : limits.free ≡ false) where
    -- an item that begins there behind so many others
    pub tells_behind : {A : Type 0} {bs : List Break} (at : ℕ) (a : A) (to count : ℕ) (p : Parser A) → ((seen : ℕ) → Tells bs p ts at seen a to) →
        TellsChoice ts (item_behind ts limits count at ++ bs) at a to (first (drop at ts)) (if_fits (fits_in limits count limits.items) code.TooLong (first (drop at ts)) (Leave p))
    tells_behind at a to count p h = tells_leave at a to (first (drop at ts)) (fits_in limits count limits.items) (nat_lt count limits.items) code.TooLong p refl (fits_is limits free count limits.items) h

    -- an item that begins with a name
    pub tells_behind_name : {A : Type 0} {bs : List Break} (id : Identifier) (at : ℕ) (a : A) (to count : ℕ) (p : Parser A) → NameStands ts at id → ((seen : ℕ) → Tells bs p ts (at + 1) seen a to) →
        let tok : Lexed = record { kind = k.Name; place = id.place; bytes = id.name } in
        TellsChoice ts (item_behind ts limits count at ++ (name_there ts limits id at ++ bs)) at a to (Some tok)
        (if_fits (fits_in limits count limits.items) code.TooLong (Some tok) (if_short limits tok (Take p)))
    tells_behind_name id at a to count p n h = let tok : Lexed = record { kind = k.Name; place = id.place; bytes = id.name } in
        tells_both at a to tok (fits_in limits count limits.items) (nat_lt count limits.items) (is_short limits tok) (nat_le (length id.name) limits.names) code.TooLong p n.is
        (fits_is limits free count limits.items) (short_is limits free tok) h

    -- and nothing is broken behind it
    pub tells_behind_named : {A : Type 0} (id : Identifier) (at : ℕ) (a : A) (to count : ℕ) (p : Parser A) → NameStands ts at id → ((seen : ℕ) → Reads ⊥ p ts (at + 1) seen a to) →
        let tok : Lexed = record { kind = k.Name; place = id.place; bytes = id.name } in
        TellsChoice ts (item_behind ts limits count at ++ name_there ts limits id at) at a to (Some tok) (if_fits (fits_in limits count limits.items) code.TooLong (Some tok) (if_short limits tok (Take p)))
    tells_behind_named id at a to count p n h = let tok : Lexed = record { kind = k.Name; place = id.place; bytes = id.name } in
        tells_both_last at a to tok (fits_in limits count limits.items) (nat_lt count limits.items) (is_short limits tok) (nat_le (length id.name) limits.names) code.TooLong p n.is
        (fits_is limits free count limits.items) (short_is limits free tok) h

    behind_none : (bs : List Break) → bs ++ [] ≡ bs
    behind_none [] = refl
    behind_none (b ∷ bs) = ap (λ bs. b ∷ bs) (behind_none bs)

    -- attributes stand before what begins here, which a token shows
    module _ {xs ys : List Attribute} {begin last : ℕ} (before : AttributesAt ts xs ys begin last) (what : Target) where
      -- and nothing is broken behind it
      pub tells_suits_last : {A : Type 0} (at : ℕ) (a : A) (to : ℕ) (t : Lexed) (p : Parser A) → ((seen : ℕ) → Reads ⊥ p ts (at + 1) seen a to) →
          TellsChoice ts (misfit_breaks ts before what at) at a to (Some t) (if_suits limits what (noted_in ts before) (Take p))
      tells_suits_last at a to t p h = subst (λ c. TellsChoice ts c at a to (Some t) (if_suits limits what (noted_in ts before) (Take p))) (behind_none (misfit_breaks ts before what at))
          (tells_suits ts limits free before what at a to t p (λ s1. tells_reads p ts (at + 1) s1 a to (h s1)))

      -- what begins with a word
      pub tells_worded : {A B : Type 0} {bs : List Break} (f : A → B) (q : Parser A) (g : Option Lexed → Choice B) (a : A) {word : Word} {p : Place} {from : ℕ} (to : ℕ) → (s : Stands ts from (k.Word word) p) →
          g (Some (record { kind = k.Word word; place = p; bytes = s.bytes })) ≡ if_suits limits what (noted_in ts before) (Take (q >>= (λ y. pure (f y)))) →
          ((s1 : ℕ) → Tells bs q ts (from + 1) s1 a to) → (seen : ℕ) → Tells (misfit_breaks ts before what from ++ bs) (next g) ts from seen (f a) to
      tells_worded f q g a {word = word} {p = p} {from = from} to s i h seen =
          let tok : Lexed = record { kind = k.Word word; place = p; bytes = s.bytes } in
          let rest = q >>= (λ y. pure (f y)) in
          tells_next ts g from seen (f a) to (Some tok) (if_suits limits what (noted_in ts before) (Take rest)) s.is i
          (tells_suits ts limits free before what from (f a) to tok rest (λ s1. tells_map f q (from + 1) s1 a to (h s1)))

      -- what its next token shows
      pub tells_shown : {A B : Type 0} {bs : List Break} (f : A → B) (q : Parser A) (g : Option Lexed → Choice B) (a : A) {from : ℕ} (to : ℕ) →
          g (first (drop from ts)) ≡ if_suits limits what (noted_in ts before) (Leave (q >>= (λ y. pure (f y)))) →
          ((s1 : ℕ) → Tells bs q ts from s1 a to) → (seen : ℕ) → Tells (misfit_breaks ts before what from ++ bs) (next g) ts from seen (f a) to
      tells_shown f q g a {from = from} to i h seen =
          let rest = q >>= (λ y. pure (f y)) in
          tells_next ts g from seen (f a) to (first (drop from ts)) (if_suits limits what (noted_in ts before) (Leave rest)) refl i
          (tells_suits_left ts limits free before what from (f a) to (first (drop from ts)) rest (λ s1. tells_map f q from s1 a to (h s1)))
