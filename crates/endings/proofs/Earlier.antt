-- What holds since a read holds since before it: a read changes nothing that is told, and counts never fall.
use Rattle.std.proofs.Common.{◌≡◌, ℕ, ◌≤◌, List, length, Option, Some, None, arith, subst}
use Rattle.file_ports.specs.Ports.{Moment, Told, Rose, NeverFall, KeepsOthers, Unsettled, Written, Gives, IsLonger}
use Rattle.lp_model.specs.ProgramData.{ProgramData}
use Rattle.endings.specs.declared.forms.Form.{Form}
use Rattle.endings.specs.declared.forms.ProgramFault.{ProgramFault}
use Rattle.endings.specs.ProgramTexts.{IsFaultOf, IsProgramOf}
use Rattle.endings.specs.Moments.{Finds, IfFound, IsThere, Reads}

pub rose_earlier : (a b c : ℕ) → a ≤ b → Rose b c → Rose a c
rose_earlier a b c h r = λ small. let l = r small in omega arith

-- what a read gave has a property: so has what is told
pub given_reads : (limit : ℕ) (told : Told) (bytes : List ℕ) (P : List ℕ → Type 0) → Gives told bytes → length bytes ≤ limit → P bytes → Reads limit told P
given_reads limit None bytes P gives most h = tt
given_reads limit (Some None) bytes P gives most h = gives
given_reads limit (Some (Some held)) bytes P gives most h = (subst (λ (b : List ℕ). length b ≤ limit) gives most, subst P gives h)

-- what was found has a property: so has what is told
pub found_reads : (limit : ℕ) (name : List ℕ) (before now : Moment) (found : Option (List ℕ)) (P : List ℕ → Type 0)
    → Finds limit name before now found → IfFound found P → Reads limit (before.told name) P
found_reads limit name before now None P finds has = absurd has
found_reads limit name before now (Some text) P finds has = given_reads limit (before.told name) text P finds.0 finds.1 has

pub program_read : (limit : ℕ) (told : Told) (d e : Form) (held text : List ℕ) (program : ProgramData) → Gives told held → length held ≤ limit → d ≡ e → text ≡ held
    → IsProgramOf d text program → Reads limit told (λ t. IsProgramOf e t program)
program_read limit told d e held text program gives most same is h =
    let P : Form → Type 0 = λ x. IsProgramOf x text program in
    let Q : List ℕ → Type 0 = λ t. IsProgramOf e t program in
    given_reads limit told held Q gives most (subst Q is (subst P same h))

pub fault_read : (limit : ℕ) (told : Told) (d e : Form) (held text : List ℕ) (fault : ProgramFault) → Gives told held → length held ≤ limit → d ≡ e → text ≡ held
    → IsFaultOf d text fault → Reads limit told (λ t. IsFaultOf e t fault)
fault_read limit told d e held text fault gives most same is h =
    let P : Form → Type 0 = λ x. IsFaultOf x text fault in
    let Q : List ℕ → Type 0 = λ t. IsFaultOf e t fault in
    given_reads limit told held Q gives most (subst Q is (subst P same h))

-- what was read is there
pub reads_there : (limit : ℕ) (told : Told) (P : List ℕ → Type 0) → Reads limit told P → IsThere told
reads_there limit None P h = tt
reads_there limit (Some None) P h = h
reads_there limit (Some (Some held)) P h = tt

gives_there : (told : Told) (bytes : List ℕ) → Gives told bytes → IsThere told
gives_there None bytes h = tt
gives_there (Some None) bytes h = h
gives_there (Some (Some held)) bytes h = tt

longer_there : (told : Told) (limit : ℕ) → IsLonger told limit → IsThere told
longer_there None limit h = tt
longer_there (Some None) limit h = h
longer_there (Some (Some held)) limit h = tt

-- what a read found is there
pub finds_there : (limit : ℕ) (name : List ℕ) (before now : Moment) (found : Option (List ℕ)) → Finds limit name before now found → IsThere (before.told name)
finds_there limit name before now None h = longer_there (before.told name) limit h.0
finds_there limit name before now (Some bytes) h = gives_there (before.told name) bytes h.0

-- bytes that a read found are those that it gave
pub found_bytes : (limit : ℕ) (name : List ℕ) (before now : Moment) (found : Option (List ℕ)) (bytes : List ℕ) → found ≡ Some bytes → Finds limit name before now found
    → Finds limit name before now (Some bytes)
found_bytes limit name before now found bytes is h = subst (λ f. Finds limit name before now f) is h

-- ---- what holds of a write since reads holds since before them
pub written_since : (old mid new : List ℕ → Told) (name held text : List ℕ) → mid ≡ old → held ≡ text → Written (mid name) (new name) held → Written (old name) (new name) text
written_since old mid new name held text same is h =
    let P : (List ℕ → Told) → Type 0 = λ t. Written (t name) (new name) held in
    let Q : List ℕ → Type 0 = λ bytes. Written (old name) (new name) bytes in
    subst Q is (subst P same h)

pub kept_since : (old mid new : List ℕ → Told) (name : List ℕ) → mid ≡ old → KeepsOthers mid new name → KeepsOthers old new name
kept_since old mid new name same h = subst (λ t. KeepsOthers t new name) same h

pub rose_since : (before between now : List ℕ → ℕ) (name : List ℕ) → NeverFall before between → Rose (between name) (now name) → Rose (before name) (now name)
rose_since before between now name stays h = rose_earlier (before name) (between name) (now name) (stays name) h

pub unsettled_since : (old mid new : List ℕ → Told) (name : List ℕ) → mid ≡ old → Unsettled (mid name) (new name) → Unsettled (old name) (new name)
unsettled_since old mid new name same h = subst (λ (t : List ℕ → Told). Unsettled (t name) (new name)) same h
