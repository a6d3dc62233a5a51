-- The exit status of the program.
use Rattle.std.specs.Prelude.{ℕ, ⊤}
use Rattle.transport.specs.declared.answer.Answer.{Answer}
use Rattle.transport.specs.declared.answer.Answer.TheVariants as answer
use Rattle.reports.specs.declared.shown.Shown.{Shown}
use Rattle.reports.specs.declared.shown.Shown.TheVariants as shows
use Rattle.commands.specs.declared.status.Status.{Status}
use Rattle.commands.specs.declared.status.Status.TheVariants.{Answered, AnsweredNo, NoCommand, CaseRefused, NetworkRefused, TooLong, ReadFault, WriteFault, OutOfMemory, TooFine}

-- the number of a status
abbrev pub number_of : Status → ℕ
number_of Answered = 0
number_of AnsweredNo = 1
number_of NoCommand = 2
number_of CaseRefused = 3
number_of NetworkRefused = 4
number_of TooLong = 5
number_of ReadFault = 6
number_of WriteFault = 7
number_of OutOfMemory = 8
number_of TooFine = 9

-- the status of a site with this answer
abbrev pub status_of_site : Answer → Status
status_of_site (answer.Least flow prices cost) = Answered
status_of_site (answer.Stuck cut) = AnsweredNo

-- the status of what is shown, where all of its text was written
abbrev pub status_of : Shown → Status
status_of (shows.Targets targets pinches) = Answered
status_of (shows.Flow case parts flow prices cost) = Answered
status_of (shows.Stuck case parts cut) = AnsweredNo
status_of (shows.Curves hot cold net) = Answered
status_of (shows.Design case network balance) = Answered
status_of (shows.Accepted case network balance place floor penalties) = Answered
status_of (shows.Rejected case network place reason) = AnsweredNo
status_of (shows.TooFine case network place step) = TooFine
status_of (shows.SiteShown site parts sinks sources answer) = status_of_site answer
status_of (shows.Sweep rows) = Answered
status_of (shows.Sample hot cold cost) = Answered
status_of (shows.Certified cost) = Answered
status_of (shows.NotCertified why) = AnsweredNo
status_of (shows.Prices case study answers) = Answered
status_of shows.BadWords = NoCommand
status_of (shows.BadCase row why) = CaseRefused
status_of shows.NotStandard = CaseRefused
status_of shows.Latent = CaseRefused
status_of (shows.BadSite row why) = CaseRefused
status_of (shows.BadNetwork line why) = NetworkRefused
status_of (shows.BadReport line why) = NetworkRefused
status_of (shows.BadStudy row why) = NetworkRefused
status_of (shows.TooLong file) = TooLong
status_of (shows.ReadFault file) = ReadFault

-- the command is answered: yes, no, or that the numbers become too fine
abbrev pub IsAnswered : Status → Type 0
IsAnswered Answered = ⊤
IsAnswered AnsweredNo = ⊤
IsAnswered TooFine = ⊤
IsAnswered NoCommand = ⊥
IsAnswered CaseRefused = ⊥
IsAnswered NetworkRefused = ⊥
IsAnswered TooLong = ⊥
IsAnswered ReadFault = ⊥
IsAnswered WriteFault = ⊥
IsAnswered OutOfMemory = ⊥
