use Rattle.input_check.proofs.PublicLaws.{whole_files-unread}
use Rattle.input_check.proofs.laws.whole_files.Goals as goal

pub returns : goal.returns
returns g c = record {
  unread = λ kind judge view held was now complaint.
      whole_files-unread kind judge view held complaint;
}
