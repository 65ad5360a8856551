use Rattle.office_commands.proofs.command.dispatch.Goals as goal

pub returns-in-Resume-clause-ends : goal.returns-in-Resume-clause-ends
returns-in-Resume-clause-ends g c = rw c.in-Resume.is c.resume_on.ensures.ends

pub returns-in-Import-clause-ends : goal.returns-in-Import-clause-ends
returns-in-Import-clause-ends g c = rw c.in-Import.is c.import_on.ensures.ends

pub returns-in-Export-clause-ends : goal.returns-in-Export-clause-ends
returns-in-Export-clause-ends g c = rw c.in-Export.is c.export_on.ensures.ends

pub returns-in-Overdue-clause-ends : goal.returns-in-Overdue-clause-ends
returns-in-Overdue-clause-ends g c = rw c.in-Overdue.is c.export_on-in-Overdue.ensures.ends

pub returns-in-Certificate-clause-ends : goal.returns-in-Certificate-clause-ends
returns-in-Certificate-clause-ends g c = rw c.in-Certificate.is c.certificate_on.ensures.ends
