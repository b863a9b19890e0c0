-- What a run leaves on its outputs and in its files, by its status.
use Rattle.std.specs.Prelude.{◌≡◌, ◌⊎◌, ◌<◌, ◌≤◌, ℕ, List, [], length, Option, None, Some}
use Rattle.std.specs.Prelude.{slice_get}
use Rattle.std.specs.Io.KnownBytes.{Appends, IsAtEnd}
use Rattle.byte_edge.specs.Devices.{CountIncreased, AppendsPrefix}
use Rattle.command_outputs.specs.Messages.{IsRefusal, IsMessage}
use Rattle.command_outputs.specs.Messages.{read_failed_line, write_failed_line, out_of_memory_line}
use Rattle.command_outputs.specs.Outcomes.{Outcome}
use Rattle.command_outputs.specs.declared.role.Role.{Role}
use Rattle.command_outputs.specs.declared.status.Status.{Status}
use Rattle.command_outputs.specs.declared.status.Status.TheVariants.{Done, Refused, Usage, Device}
use Rattle.command_outputs.specs.declared.status.Status.TheVariants.{NoMemory, Refuted, Undecided}

-- the first so many slots have nothing left
abbrev pub AreAtEnd : ℕ → (ℕ → Option (List ℕ)) → Type 0
AreAtEnd count left = (k : ℕ) → k < count → IsAtEnd (left k)

-- the slots from this number on, and their counts of faults, are as they were
abbrev pub UnchangedFrom : ℕ → (ℕ → Option (List ℕ)) → (ℕ → Option (List ℕ)) → (ℕ → ℕ) → (ℕ → ℕ)
    → Type 0
UnchangedFrom count left_was left_now faults_was faults_now =
    (k : ℕ) → count ≤ k → (left_now k ≡ left_was k) × (faults_now k ≡ faults_was k)

-- nothing is written before all files of the command are open
abbrev pub WritesWhenOpen : List Role → (ℕ → Type 0) → Option (List ℕ) → Option (List ℕ) → Type 0
WritesWhenOpen roles open_now was now =
    ((k : ℕ) → k < length roles → open_now k) ⊎ Appends was now []

-- ---- by what the files hold
-- the run ends as its outcome says: with this status, the whole text and the message, and its files
-- read to their end
pub record EndsAs (o : Outcome) (left_now : ℕ → Option (List ℕ))
    (out_was out_now err_was err_now : Option (List ℕ)) (result : Status) : Type 0 where
  pub status : o.status ≡ result
  pub output : Appends out_was out_now o.output
  pub message : Appends err_was err_now o.message
  pub at_end : AreAtEnd o.ended left_now

-- A read failed. A command that writes at its end only has written nothing. One that writes while
-- it reads has written what belongs to the bytes taken of the second file, and nothing where that
-- was not opened.
abbrev pub Interrupted : Option (List ℕ → List ℕ) → Option (List ℕ) → Option (List ℕ)
    → Option (List ℕ) → Option (List ℕ) → Type 0
Interrupted None left_was left_now was now = Appends was now []
Interrupted (Some partial) left_was left_now was now =
    ((rest : List ℕ) × (left_now ≡ Some rest) × Appends was now (partial rest))
    ⊎ ((left_now ≡ left_was) × Appends was now [])

-- a device failed: a prefix of the text is written, and exactly how much where neither output
-- failed
pub record IsBroken (o : Outcome) (second_was second_now out_was out_now : Option (List ℕ))
    (out_faults_was out_faults_now err_faults_was err_faults_now : ℕ) : Type 0 where
  pub prefix : AppendsPrefix out_was out_now o.output
  pub cause : CountIncreased out_faults_was out_faults_now
      ⊎ (CountIncreased err_faults_was err_faults_now
      ⊎ Interrupted o.partial second_was second_now out_was out_now)

-- what a run leaves, by its status, where its outcome is known: it ends as the outcome says, unless
-- memory was refused or a device failed; then a prefix of the text is written
abbrev pub Leaves : Outcome → Option (List ℕ) → (ℕ → Option (List ℕ))
    → Option (List ℕ) → Option (List ℕ) → Option (List ℕ) → Option (List ℕ)
    → ℕ → ℕ → ℕ → ℕ → Status → Type 0
Leaves o second_was left_now ow on ew en ofw ofn efw efn Done = EndsAs o left_now ow on ew en Done
Leaves o second_was left_now ow on ew en ofw ofn efw efn Refused =
    EndsAs o left_now ow on ew en Refused
Leaves o second_was left_now ow on ew en ofw ofn efw efn Usage = EndsAs o left_now ow on ew en Usage
Leaves o second_was left_now ow on ew en ofw ofn efw efn Refuted =
    EndsAs o left_now ow on ew en Refuted
Leaves o second_was left_now ow on ew en ofw ofn efw efn Undecided =
    EndsAs o left_now ow on ew en Undecided
Leaves o second_was left_now ow on ew en ofw ofn efw efn NoMemory = AppendsPrefix ow on o.output
Leaves o second_was left_now ow on ew en ofw ofn efw efn Device =
    IsBroken o second_was (left_now 1) ow on ofw ofn efw efn

-- ---- whatever the files hold
-- a fault of this file of the command: the count of its slot increased
pub record IsFaultOf (roles : List Role) (faults_was faults_now : ℕ → ℕ) (r : Role) : Type 0 where
  pub slot : ℕ
  pub is : slice_get roles slot ≡ Some r
  pub increased : CountIncreased (faults_was slot) (faults_now slot)

-- what is said of a failed device: the file whose count increased, or the output, or a prefix of a
-- message where standard error itself failed
abbrev pub SaysDevice : List ℕ → List Role → (ℕ → ℕ) → (ℕ → ℕ) → ℕ → ℕ → ℕ → ℕ
    → Option (List ℕ) → Option (List ℕ) → Type 0
SaysDevice usage roles faults_was faults_now ofw ofn efw efn was now =
    ((r : Role) × IsFaultOf roles faults_was faults_now r × Appends was now (read_failed_line r))
    ⊎ ((CountIncreased ofw ofn × Appends was now write_failed_line)
    ⊎ (CountIncreased efw efn
    × ((text : List ℕ) × IsMessage usage text × AppendsPrefix was now text)))

-- what is said on standard error, by the status
abbrev pub Says : List ℕ → List Role → (ℕ → ℕ) → (ℕ → ℕ) → ℕ → ℕ → ℕ → ℕ
    → Option (List ℕ) → Option (List ℕ) → Status → Type 0
Says usage roles faults_was faults_now ofw ofn efw efn was now Done = Appends was now []
Says usage roles faults_was faults_now ofw ofn efw efn was now Refuted = Appends was now []
Says usage roles faults_was faults_now ofw ofn efw efn was now Undecided = Appends was now []
Says usage roles faults_was faults_now ofw ofn efw efn was now Refused =
    (line : List ℕ) × IsRefusal line × Appends was now line
Says usage roles faults_was faults_now ofw ofn efw efn was now Usage = Appends was now usage
Says usage roles faults_was faults_now ofw ofn efw efn was now NoMemory =
    Appends was now out_of_memory_line
Says usage roles faults_was faults_now ofw ofn efw efn was now Device =
    SaysDevice usage roles faults_was faults_now ofw ofn efw efn was now

-- no count of faults changed
pub record NoFault (faults_was faults_now : ℕ → ℕ)
    (out_was out_now err_was err_now : ℕ) : Type 0 where
  pub files : (k : ℕ) → faults_now k ≡ faults_was k
  pub out : out_now ≡ out_was
  pub err : err_now ≡ err_was

-- the count of a file of the command, of the output or of standard error increased
abbrev pub SomeFault : List Role → (ℕ → ℕ) → (ℕ → ℕ) → ℕ → ℕ → ℕ → ℕ → Type 0
SomeFault roles faults_was faults_now out_was out_now err_was err_now =
    ((r : Role) × IsFaultOf roles faults_was faults_now r)
    ⊎ (CountIncreased out_was out_now ⊎ CountIncreased err_was err_now)

-- the counts of faults, by the status: Device comes only where one increased, and every other
-- status leaves all counts as they were
abbrev pub Counts : List Role → (ℕ → ℕ) → (ℕ → ℕ) → ℕ → ℕ → ℕ → ℕ → Status → Type 0
Counts roles fw fn ofw ofn efw efn Done = NoFault fw fn ofw ofn efw efn
Counts roles fw fn ofw ofn efw efn Refused = NoFault fw fn ofw ofn efw efn
Counts roles fw fn ofw ofn efw efn Usage = NoFault fw fn ofw ofn efw efn
Counts roles fw fn ofw ofn efw efn NoMemory = NoFault fw fn ofw ofn efw efn
Counts roles fw fn ofw ofn efw efn Refuted = NoFault fw fn ofw ofn efw efn
Counts roles fw fn ofw ofn efw efn Undecided = NoFault fw fn ofw ofn efw efn
Counts roles fw fn ofw ofn efw efn Device = SomeFault roles fw fn ofw ofn efw efn
