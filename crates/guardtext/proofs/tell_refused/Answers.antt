-- A refusal alone, or with its record and all records.
use Rattle.std.proofs.Common.{◌++◌, ◌∙◌, ap₂}
use Rattle.spec_policy.specs.Bytes.{Bytes}
use Rattle.spec_text.specs.Printing.{shown_records}
use Rattle.faults.specs.Meaning.{fault_of}
use Rattle.text_append.proofs.AddedLaws.{joined, named}
use Rattle.guardtext.specs.Shown.{records_text, heading}
use Rattle.guardtext.proofs.ShownLaws.{refused-fits, bare-text, full-text}
use Rattle.guardtext.proofs.tell_refused.Goals as goal

pub returns-then-fault-lt-FIRST_OF_RECORDS : goal.returns-then-fault-lt-FIRST_OF_RECORDS
unfolding fault_of
returns-then-fault-lt-FIRST_OF_RECORDS c = named c.refuse.ensures (bare-text c.args.policy.now (fault_of c.args.fault) c.if-fault-lt-FIRST_OF_RECORDS.true)

pub records-requires : goal.records-requires
unfolding fault_of
records-requires c = refused-fits c.requires c.if-fault-lt-FIRST_OF_RECORDS.false

pub returns : goal.returns
unfolding fault_of records_text
returns c =
    let f = fault_of c.args.fault in
    named (joined c.head-headed.ensures c.print.ensures)
    (ap₂ (λ (ns ss : Bytes). heading ns f ++ shown_records ns ss) c.records.ensures.nodes c.records.ensures.steps
    ∙ full-text c.args.policy.now f c.if-fault-lt-FIRST_OF_RECORDS.false)
