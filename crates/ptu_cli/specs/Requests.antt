-- What the words of a command ask for.
use Rattle.std.specs.{Prelude.{◌≡◌, ◌≤◌, None, Some, IfSome}, declared.option.Option.Option}
use Rattle.{ptu_made.specs.Generator.photon_limit, ptu_cli.specs.Commands.{Request, Count as CountOf, Header as HeaderOf, Events as EventsOf, Run as RunOf, Trace as TraceOf, Pick as PickOf}}
use Rattle.ptu_cli.specs.{Commands.Demo as DemoOf, declared.words.Command.{Command, TheVariants.{Count, Header, Events, Run, Trace, Pick, Demo}}}

abbrev pub asked_for : Option Command → Option Request
asked_for None = None
asked_for (Some (Count file)) = Some (CountOf file.now)
asked_for (Some (Header file)) = Some (HeaderOf file.now)
asked_for (Some (Events file)) = Some (EventsOf file.now)
asked_for (Some (Run plan file)) = Some (RunOf plan.now file.now)
asked_for (Some (Trace plan file)) = Some (TraceOf plan.now file.now)
asked_for (Some (Pick plan group file)) = Some (PickOf plan.now group file.now)
asked_for (Some (Demo seed count)) = Some (DemoOf seed count)

-- A command asks for no more photons than a made file may have.
abbrev pub AsksFew : Command → Type 0
AsksFew (Demo seed count) = count ≤ photon_limit
AsksFew other = Unit {0}

-- Words are read as what they ask for.
pub record ReadAs (command : Option Command) (asked : Option Request) : Type 0 where
  pub request : asked_for command ≡ asked
  pub few : IfSome command AsksFew
