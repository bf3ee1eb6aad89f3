-- What each clause of the call says, from how the call goes.
use Rattle.std.proofs.Common.{◌≡◌, ◌≢◌, ◌⊎◌, inl, inr, ⊎_elim, ℕ, ◌≤◌, List, [], ◌++◌, Option, Some, None, refl, sym, ap, ◌∙◌, subst, append-nil, arith}
use Rattle.slang_store.specs.Contents.{Contents, with_entry, IsPrefixOf}
use Rattle.slang_store.specs.Counts.{Rose}
use Rattle.slang_outcomes.specs.declared.outcome.Outcome.{Outcome}
use Rattle.slang_outcomes.specs.declared.outcome.Outcome.TheVariants.{Done, ModuleRefused, LinkRefused, Words, ReadFault, WriteFault, Memory, Undefined, Budget, Absent, FormRefused, ImageRefused, InputRefused}
use Rattle.slang_cli.specs.Commands.{Request, asked, asked_of}
use Rattle.slang_outcomes.specs.Lines.{refusal_line}
use Rattle.slang_cli.specs.Answers.{Answer, Refuses, Puts, IsAnswer, MayAnswer, outcome_of, printed, contents_after}
use Rattle.slang_cli.specs.Outside.{FilesNow, SinkNow, TookAll, IsHalt, IsTheAnswer, Runs, halted, answered, cut}
use Rattle.slang_cli.specs.Calls.{WhereSettled, WhereRefused, Answered, PutInPart, MayHold, HoldsWhole, IsLineOf, IsLine, MayPrint, IsDoneLine}
use Rattle.slang_cli.proofs.Possible.{IsReal, may_real, may_line}

-- ---- on statuses

some_is : {A : Type 0} {a b : A} → Some a ≡ Some b → a ≡ b
some_is e = cc

settled : (s : Outcome) (P : Type 0) → P → WhereSettled s P
settled Done P p = p
settled (ModuleRefused x y z) P p = p
settled (LinkRefused x) P p = p
settled Words P p = p
settled ReadFault P p = tt
settled WriteFault P p = tt
settled Memory P p = tt
settled (Undefined x y) P p = p
settled (Budget x) P p = p
settled (Absent x) P p = p
settled (FormRefused x y z) P p = p
settled (ImageRefused x y) P p = p
settled (InputRefused x) P p = p

where_refused : (s : Outcome) (P : Type 0) → P → WhereRefused s P
where_refused Done P p = tt
where_refused (ModuleRefused x y z) P p = p
where_refused (LinkRefused x) P p = p
where_refused Words P p = p
where_refused ReadFault P p = p
where_refused WriteFault P p = tt
where_refused Memory P p = p
where_refused (Undefined x y) P p = p
where_refused (Budget x) P p = p
where_refused (Absent x) P p = p
where_refused (FormRefused x y z) P p = p
where_refused (ImageRefused x y) P p = p
where_refused (InputRefused x) P p = p

halt_words : (c : Option Request) (f g : FilesNow) → IsHalt c f g Words → c ≡ None
halt_words None f g h = refl
halt_words (Some c) f g h = absurd h

halt_read : (c : Option Request) (f g : FilesNow) → IsHalt c f g ReadFault → Rose f.reads g.reads
halt_read None f g h = absurd h
halt_read (Some c) f g h = h

halt_write : (c : Option Request) (f g : FilesNow) → IsHalt c f g WriteFault → ⊥
halt_write None f g h = h
halt_write (Some c) f g h = h

halt_none : (f g : FilesNow) (s : Outcome) → IsHalt None f g s → s ≡ Words
halt_none f g Done h = absurd h
halt_none f g (ModuleRefused x y z) h = absurd h
halt_none f g (LinkRefused x) h = absurd h
halt_none f g Words h = refl
halt_none f g ReadFault h = absurd h
halt_none f g WriteFault h = absurd h
halt_none f g Memory h = absurd h
halt_none f g (Undefined x y) h = absurd h
halt_none f g (Budget x) h = absurd h
halt_none f g (Absent x) h = absurd h
halt_none f g (FormRefused x y z) h = absurd h
halt_none f g (ImageRefused x y) h = absurd h
halt_none f g (InputRefused x) h = absurd h

halt_unsettled : (c : Request) (f g : FilesNow) (s : Outcome) (P : Type 0) → IsHalt (Some c) f g s → WhereSettled s P
halt_unsettled c f g Done P h = absurd h
halt_unsettled c f g (ModuleRefused x y z) P h = absurd h
halt_unsettled c f g (LinkRefused x) P h = absurd h
halt_unsettled c f g Words P h = absurd h
halt_unsettled c f g ReadFault P h = tt
halt_unsettled c f g WriteFault P h = absurd h
halt_unsettled c f g Memory P h = tt
halt_unsettled c f g (Undefined x y) P h = absurd h
halt_unsettled c f g (Budget x) P h = absurd h
halt_unsettled c f g (Absent x) P h = absurd h
halt_unsettled c f g (FormRefused x y z) P h = absurd h
halt_unsettled c f g (ImageRefused x y) P h = absurd h
halt_unsettled c f g (InputRefused x) P h = absurd h

halt_line : (Kind : Request → Answer → Type 0) (c : Option Request) (f g : FilesNow) (s : Outcome) → IsHalt c f g s → IsLineOf Kind c (refusal_line (asked_of c) s)
halt_line Kind None f g Done h = absurd h
halt_line Kind None f g (ModuleRefused x y z) h = absurd h
halt_line Kind None f g (LinkRefused x) h = absurd h
halt_line Kind None f g Words h = refl
halt_line Kind None f g ReadFault h = absurd h
halt_line Kind None f g WriteFault h = absurd h
halt_line Kind None f g Memory h = absurd h
halt_line Kind None f g (Undefined x y) h = absurd h
halt_line Kind None f g (Budget x) h = absurd h
halt_line Kind None f g (Absent x) h = absurd h
halt_line Kind None f g (FormRefused x y z) h = absurd h
halt_line Kind None f g (ImageRefused x y) h = absurd h
halt_line Kind None f g (InputRefused x) h = absurd h
halt_line Kind (Some c) f g Done h = absurd h
halt_line Kind (Some c) f g (ModuleRefused x y z) h = absurd h
halt_line Kind (Some c) f g (LinkRefused x) h = absurd h
halt_line Kind (Some c) f g Words h = absurd h
halt_line Kind (Some c) f g ReadFault h = inr (inl refl)
halt_line Kind (Some c) f g WriteFault h = absurd h
halt_line Kind (Some c) f g Memory h = inr (inr refl)
halt_line Kind (Some c) f g (Undefined x y) h = absurd h
halt_line Kind (Some c) f g (Budget x) h = absurd h
halt_line Kind (Some c) f g (Absent x) h = absurd h
halt_line Kind (Some c) f g (FormRefused x y z) h = absurd h
halt_line Kind (Some c) f g (ImageRefused x y) h = absurd h
halt_line Kind (Some c) f g (InputRefused x) h = absurd h

pub halt_done : (c : Option Request) (f g : FilesNow) → IsHalt c f g Done → ⊥
halt_done None f g h = h
halt_done (Some c) f g h = h

rose_before : (a b c : ℕ) → a ≤ b → Rose b c → Rose a c
rose_before a b c le r = ⊎_elim (λ lt. inl (omega (arith, lt))) (λ e. inr e) r

halt_before : (c : Option Request) (f f1 g : FilesNow) (s : Outcome) → f.reads ≤ f1.reads → IsHalt c f1 g s → IsHalt c f g s
halt_before None f f1 g Done le h = absurd h
halt_before None f f1 g (ModuleRefused x y z) le h = absurd h
halt_before None f f1 g (LinkRefused x) le h = absurd h
halt_before None f f1 g Words le h = tt
halt_before None f f1 g ReadFault le h = absurd h
halt_before None f f1 g WriteFault le h = absurd h
halt_before None f f1 g Memory le h = absurd h
halt_before None f f1 g (Undefined x y) le h = absurd h
halt_before None f f1 g (Budget x) le h = absurd h
halt_before None f f1 g (Absent x) le h = absurd h
halt_before None f f1 g (FormRefused x y z) le h = absurd h
halt_before None f f1 g (ImageRefused x y) le h = absurd h
halt_before None f f1 g (InputRefused x) le h = absurd h
halt_before (Some c) f f1 g Done le h = absurd h
halt_before (Some c) f f1 g (ModuleRefused x y z) le h = absurd h
halt_before (Some c) f f1 g (LinkRefused x) le h = absurd h
halt_before (Some c) f f1 g Words le h = absurd h
halt_before (Some c) f f1 g ReadFault le h = rose_before f.reads f1.reads g.reads le h
halt_before (Some c) f f1 g WriteFault le h = absurd h
halt_before (Some c) f f1 g Memory le h = tt
halt_before (Some c) f f1 g (Undefined x y) le h = absurd h
halt_before (Some c) f f1 g (Budget x) le h = absurd h
halt_before (Some c) f f1 g (Absent x) le h = absurd h
halt_before (Some c) f f1 g (FormRefused x y z) le h = absurd h
halt_before (Some c) f f1 g (ImageRefused x y) le h = absurd h
halt_before (Some c) f f1 g (InputRefused x) le h = absurd h

-- the fault of the sink is no other status
no_fault : {A : Type 0} {r s : Outcome} → r ≡ WriteFault → r ≡ s → (WriteFault ≡ s → ⊥) → A
no_fault e h other = absurd (other (sym e ∙ h))

-- a real status is none of these
unreal : {A : Type 0} (s t : Outcome) → s ≡ t → IsReal s → (IsReal t → ⊥) → A
unreal s t e h never = absurd (never (subst (λ (x : Outcome). IsReal x) e h))

-- ---- a call whose files were read first

-- what happens after a read that changed no contents
pub runs_before : (c : Option Request) (f f1 g : FilesNow) (o n : SinkNow) {result : Outcome} → f1.contents ≡ f.contents → f1.puts ≡ f.puts → f.reads ≤ f1.reads → Runs c f1 g o n result → Runs c f g o n result
runs_before c f f1 g o n same puts le (halted status h stays p) = halted status (halt_before c f f1 g status le h) (stays ∙ same) p
runs_before c f f1 g o n same puts le (answered command a is_c is after p) =
    answered command a is_c (record { is = λ m told. is.is m (same ∙ told); may = is.may; told = λ m told. is.told m (same ∙ told) }) (λ m told. after m (same ∙ told)) p
runs_before c f f1 g o n same puts le (cut command name bytes line is_c is partly rose taken) =
    cut command name bytes line is_c (record { is = λ m told. is.is m (same ∙ told); may = is.may; told = λ m told. is.told m (same ∙ told) }) (λ m told. partly m (same ∙ told)) (subst (λ (k : ℕ). Rose k g.puts) puts rose) taken

-- ---- the clauses

pub only_words : (c : Option Request) (f g : FilesNow) (o n : SinkNow) {result : Outcome} → Runs c f g o n result → result ≡ Words → c ≡ None
only_words c f g o n (halted status h stays p) e =
    ⊎_elim (λ all. halt_words c f g (subst (λ (s : Outcome). IsHalt c f g s) (sym all.1 ∙ e) h)) (λ part. no_fault part.1 e (λ x. cc)) p
only_words c f g o n (answered command a is_c is after p) e =
    ⊎_elim (λ all. unreal (outcome_of a) Words (sym all.1 ∙ e) (may_real command a is.may) (λ x. x)) (λ part. no_fault part.1 e (λ x. cc)) p
only_words c f g o n (cut command name bytes line is_c is partly rose taken) e = absurd cc

pub always_words : (c : Option Request) (f g : FilesNow) (o n : SinkNow) {result : Outcome} → Runs c f g o n result → c ≡ None → (result ≡ Words) ⊎ (result ≡ WriteFault)
always_words c f g o n (halted status h stays p) e =
    ⊎_elim (λ all. inl (all.1 ∙ halt_none f g status (subst (λ (x : Option Request). IsHalt x f g status) e h))) (λ part. inr part.1) p
always_words c f g o n (answered command a is_c is after p) e = absurd (let x : Some command ≡ None = sym is_c ∙ e in cc)
always_words c f g o n (cut command name bytes line is_c is partly rose taken) e = inr refl

pub read_rose : (c : Option Request) (f g : FilesNow) (o n : SinkNow) {result : Outcome} → Runs c f g o n result → result ≡ ReadFault → Rose f.reads g.reads
read_rose c f g o n (halted status h stays p) e =
    ⊎_elim (λ all. halt_read c f g (subst (λ (s : Outcome). IsHalt c f g s) (sym all.1 ∙ e) h)) (λ part. no_fault part.1 e (λ x. cc)) p
read_rose c f g o n (answered command a is_c is after p) e =
    ⊎_elim (λ all. unreal (outcome_of a) ReadFault (sym all.1 ∙ e) (may_real command a is.may) (λ x. x)) (λ part. no_fault part.1 e (λ x. cc)) p
read_rose c f g o n (cut command name bytes line is_c is partly rose taken) e = absurd cc

pub write_rose : (c : Option Request) (f g : FilesNow) (o n : SinkNow) {result : Outcome} → Runs c f g o n result → result ≡ WriteFault → Rose f.puts g.puts ⊎ Rose o.faults n.faults
write_rose c f g o n (halted status h stays p) e =
    ⊎_elim (λ all. absurd (halt_write c f g (subst (λ (s : Outcome). IsHalt c f g s) (sym all.1 ∙ e) h))) (λ part. inr part.0.rose) p
write_rose c f g o n (answered command a is_c is after p) e =
    ⊎_elim (λ all. unreal (outcome_of a) WriteFault (sym all.1 ∙ e) (may_real command a is.may) (λ x. x)) (λ part. inr part.0.rose) p
write_rose c f g o n (cut command name bytes line is_c is partly rose taken) e = inl rose

unchanged : (m : Contents) (a : Answer) → outcome_of a ≢ Done → contents_after m a ≡ m
unchanged m (Refuses status) ne = refl
unchanged m (Puts name bytes line) ne = absurd (ne refl)

pub kept : (c : Option Request) (f g : FilesNow) (o n : SinkNow) (m : Contents) {result : Outcome} → Runs c f g o n result → f.contents ≡ Some m → result ≢ Done → result ≢ WriteFault → g.contents ≡ Some m
kept c f g o n m (halted status h stays p) told not_done not_fault = stays ∙ told
kept c f g o n m (answered command a is_c is after p) told not_done not_fault =
    ⊎_elim (λ all. after m told ∙ ap (λ (x : Contents). Some x) (unchanged m a (λ e. not_done (all.1 ∙ e)))) (λ part. absurd (not_fault part.1)) p
kept c f g o n m (cut command name bytes line is_c is partly rose taken) told not_done not_fault = absurd (not_fault refl)

pub answer : (c : Option Request) (f g : FilesNow) (o n : SinkNow) (m : Contents) (request : Request) {result : Outcome} → Runs c f g o n result → f.contents ≡ Some m → c ≡ Some request → WhereSettled result (Answered request m result g.contents o n)
answer c f g o n m request (halted status h stays p) told e =
    let P : Outcome → Type 0 = λ s. WhereSettled s (Answered request m s g.contents o n) in
    ⊎_elim
    (λ all. subst P (sym all.1) (halt_unsettled request f g status (Answered request m status g.contents o n) (subst (λ (x : Option Request). IsHalt x f g status) e h)))
    (λ part. subst P (sym part.1) tt)
    p
answer c f g o n m request (answered command a is_c is after p) told e =
    let P : Outcome → Type 0 = λ s. WhereSettled s (Answered request m s g.contents o n) in
    let same : command ≡ request = some_is (sym is_c ∙ e) in
    ⊎_elim
    (λ all. subst P (sym all.1) (settled (outcome_of a) (Answered request m (outcome_of a) g.contents o n) (record {
      answer = a;
      is = subst (λ (x : Request). IsAnswer x m a) same (is.is m told);
      status_is = refl;
      files = after m told;
      line = subst (λ (x : Request). TookAll o n (printed x a)) same all.0;
    })))
    (λ part. subst P (sym part.1) tt)
    p
answer c f g o n m request (cut command name bytes line is_c is partly rose taken) told e = tt

holds_same : (c : Option Request) (m : Contents) (n : Option Contents) → n ≡ Some m → MayHold c m n
holds_same None m n e = e
holds_same (Some c) m n e = inl e

holds_after : (c : Request) (m : Contents) (n : Option Contents) (a : Answer) → IsAnswer c m a → n ≡ Some (contents_after m a) → MayHold (Some c) m n
holds_after c m n (Refuses status) is e = inl e
holds_after c m n (Puts name bytes line) is e = inr (record {
  name = name;
  bytes = bytes;
  line = line;
  is = is;
  left = with_entry m name bytes;
  files = e;
  partly = inr (bytes, ([], sym (append-nil bytes)), refl);
})

pub put_in_part : (c : Option Request) (f g : FilesNow) (o n : SinkNow) (m : Contents) {result : Outcome} → Runs c f g o n result → f.contents ≡ Some m → MayHold c m g.contents
put_in_part c f g o n m (halted status h stays p) told = holds_same c m g.contents (stays ∙ told)
put_in_part c f g o n m (answered command a is_c is after p) told =
    subst (λ (x : Option Request). MayHold x m g.contents) (sym is_c) (holds_after command m g.contents a (is.is m told) (after m told))
put_in_part c f g o n m (cut command name bytes line is_c is partly rose taken) told =
    let left = partly m told in
    let x : PutInPart command m g.contents = record { name = name; bytes = bytes; line = line; is = is.is m told; left = left.0; files = left.1; partly = left.2 } in
    subst (λ (x : Option Request). MayHold x m g.contents) (sym is_c) (inr x)

refused_of : (c : Request) (a : Answer) (b : List ℕ) (n : Option (List ℕ)) → n ≡ Some (b ++ printed c a) → WhereRefused (outcome_of a) (n ≡ Some (b ++ refusal_line (asked c) (outcome_of a)))
refused_of c (Refuses status) b n e = where_refused status (n ≡ Some (b ++ refusal_line (asked c) status)) e
refused_of c (Puts name bytes line) b n e = tt

pub whole_line : (c : Option Request) (f g : FilesNow) (o n : SinkNow) (b : List ℕ) {result : Outcome} → Runs c f g o n result → o.bytes ≡ Some b → WhereRefused result (n.bytes ≡ Some (b ++ refusal_line (asked_of c) result))
whole_line c f g o n b (halted status h stays p) told =
    let P : Outcome → Type 0 = λ s. WhereRefused s (n.bytes ≡ Some (b ++ refusal_line (asked_of c) s)) in
    ⊎_elim (λ all. subst P (sym all.1) (where_refused status (n.bytes ≡ Some (b ++ refusal_line (asked_of c) status)) (all.0.bytes b told))) (λ part. subst P (sym part.1) tt) p
whole_line c f g o n b (answered command a is_c is after p) told =
    let P : Outcome → Type 0 = λ s. WhereRefused s (n.bytes ≡ Some (b ++ refusal_line (asked_of c) s)) in
    let Q : Option Request → Type 0 = λ x. WhereRefused (outcome_of a) (n.bytes ≡ Some (b ++ refusal_line (asked_of x) (outcome_of a))) in
    ⊎_elim (λ all. subst P (sym all.1) (subst Q (sym is_c) (refused_of command a b n.bytes (all.0.bytes b told)))) (λ part. subst P (sym part.1) tt) p
whole_line c f g o n b (cut command name bytes line is_c is partly rose taken) told = tt

part_by : (Kind : Request → Answer → Type 0) (c : Option Request) (f g : FilesNow) (o n : SinkNow) (b : List ℕ) {result : Outcome} → Runs c f g o n result → ((command : Request) (a : Answer) → IsTheAnswer command f a → Kind command a) → o.bytes ≡ Some b → result ≡ WriteFault → (line p : List ℕ) × IsLineOf Kind c line × IsPrefixOf p line × (n.bytes ≡ Some (b ++ p))
part_by Kind c f g o n b (halted status h stays p) kind took e =
    ⊎_elim
    (λ all. absurd (halt_write c f g (subst (λ (s : Outcome). IsHalt c f g s) (sym all.1 ∙ e) h)))
    (λ part. let x = part.0.bytes b took in (refusal_line (asked_of c) status, x.0, halt_line Kind c f g status h, x.1, x.2))
    p
part_by Kind c f g o n b (answered command a is_c is after p) kind took e =
    ⊎_elim
    (λ all. unreal (outcome_of a) WriteFault (sym all.1 ∙ e) (may_real command a is.may) (λ x. x))
    (λ part.
    let x = part.0.bytes b took in
    let line : IsLineOf Kind (Some command) (printed command a) = inl (a, kind command a is, refl) in
    (printed command a, x.0, subst (λ (x : Option Request). IsLineOf Kind x (printed command a)) (sym is_c) line, x.1, x.2))
    p
part_by Kind c f g o n b (cut command name bytes line is_c is partly rose taken) kind took e =
    let is_line : IsLineOf Kind (Some command) line = inl (Puts name bytes line, kind command (Puts name bytes line) is, refl) in
    (line, [], subst (λ (x : Option Request). IsLineOf Kind x line) (sym is_c) is_line, (line, refl), taken ∙ took ∙ ap (λ (l : List ℕ). Some l) (sym (append-nil b)))

pub part_of_line : (c : Option Request) (f g : FilesNow) (o n : SinkNow) (m : Contents) (b : List ℕ) {result : Outcome} → Runs c f g o n result → f.contents ≡ Some m → o.bytes ≡ Some b → result ≡ WriteFault → (line p : List ℕ) × IsLine c m line × IsPrefixOf p line × (n.bytes ≡ Some (b ++ p))
part_of_line c f g o n m b runs told took e = part_by (λ command a. IsAnswer command m a) c f g o n b runs (λ command a is. is.is m told) took e

-- the sink alone tells
pub part_of_a_line : (c : Option Request) (f g : FilesNow) (o n : SinkNow) (b : List ℕ) {result : Outcome} → Runs c f g o n result → o.bytes ≡ Some b → result ≡ WriteFault → (line p : List ℕ) × MayPrint c line × IsPrefixOf p line × (n.bytes ≡ Some (b ++ p))
part_of_a_line c f g o n b runs took e = part_by MayAnswer c f g o n b runs (λ command a is. is.may) took e

pub done_line : (c : Option Request) (f g : FilesNow) (o n : SinkNow) (b : List ℕ) {result : Outcome} → Runs c f g o n result → o.bytes ≡ Some b → result ≡ Done → (line : List ℕ) × IsDoneLine c line × (n.bytes ≡ Some (b ++ line))
done_line c f g o n b (halted status h stays p) took e =
    ⊎_elim (λ all. absurd (halt_done c f g (subst (λ (s : Outcome). IsHalt c f g s) (sym all.1 ∙ e) h))) (λ part. no_fault part.1 e (λ x. cc)) p
done_line c f g o n b (answered command a is_c is after p) took e =
    ⊎_elim
    (λ all.
    let line : IsDoneLine (Some command) (printed command a) = may_line command a is.may (sym all.1 ∙ e) in
    (printed command a, subst (λ (x : Option Request). IsDoneLine x (printed command a)) (sym is_c) line, all.0.bytes b took))
    (λ part. no_fault part.1 e (λ x. cc))
    p
done_line c f g o n b (cut command name bytes line is_c is partly rose taken) took e = absurd cc

-- ---- after a fault in writing

-- the sink did not fail, so a put did
pub nothing_printed : (c : Option Request) (f g : FilesNow) (o n : SinkNow) {result : Outcome} → Runs c f g o n result → result ≡ WriteFault → (Rose o.faults n.faults → ⊥) → n.bytes ≡ o.bytes
nothing_printed c f g o n (halted status h stays p) e not_rose =
    ⊎_elim (λ all. absurd (halt_write c f g (subst (λ (s : Outcome). IsHalt c f g s) (sym all.1 ∙ e) h))) (λ part. absurd (not_rose part.0.rose)) p
nothing_printed c f g o n (answered command a is_c is after p) e not_rose =
    ⊎_elim (λ all. unreal (outcome_of a) WriteFault (sym all.1 ∙ e) (may_real command a is.may) (λ x. x)) (λ part. absurd (not_rose part.0.rose)) p
nothing_printed c f g o n (cut command name bytes line is_c is partly rose taken) e not_rose = taken

holds_whole : (c : Option Request) (m : Contents) (n : Option Contents) → n ≡ Some m → HoldsWhole c m n
holds_whole None m n e = e
holds_whole (Some c) m n e = inl e

-- no put failed, so nothing stands in part
pub put_whole : (c : Option Request) (f g : FilesNow) (o n : SinkNow) (m : Contents) {result : Outcome} → Runs c f g o n result → f.contents ≡ Some m → (Rose f.puts g.puts → ⊥) → HoldsWhole c m g.contents
put_whole c f g o n m (halted status h stays p) told not_rose = holds_whole c m g.contents (stays ∙ told)
put_whole c f g o n m (answered command a is_c is after p) told not_rose =
    let whole : HoldsWhole (Some command) m g.contents = inr (a, is.is m told, after m told) in
    subst (λ (x : Option Request). HoldsWhole x m g.contents) (sym is_c) whole
put_whole c f g o n m (cut command name bytes line is_c is partly rose taken) told not_rose = absurd (not_rose rose)
