use Rattle.table_out.proofs.report.put_part.Goals as goal

pub returns-in-Hist-in_part : goal.returns-in-Hist-in_part
returns-in-Hist-in_part g c = rw c.in-Hist-in_part.is c.put_table.ensures

pub returns-in-Trace-in_part : goal.returns-in-Trace-in_part
returns-in-Trace-in_part g c = rw c.in-Trace-in_part.is c.put_table-2.ensures

pub returns-in-StartStop-in_part : goal.returns-in-StartStop-in_part
returns-in-StartStop-in_part g c = rw c.in-StartStop-in_part.is c.put_table-3.ensures

pub returns-in-Coincidence-in_part : goal.returns-in-Coincidence-in_part
returns-in-Coincidence-in_part g c = rw c.in-Coincidence-in_part.is c.put_table-4.ensures

pub returns-in-Image-in_part : goal.returns-in-Image-in_part
returns-in-Image-in_part g c = rw c.in-Image-in_part.is c.put_table-5.ensures

pub returns-in-Correlation-in_part : goal.returns-in-Correlation-in_part
returns-in-Correlation-in_part g c = rw c.in-Correlation-in_part.is c.put_table-6.ensures

pub returns-in-Cube-in_part : goal.returns-in-Cube-in_part
returns-in-Cube-in_part g c = rw c.in-Cube-in_part.is c.put_table-7.ensures

pub returns-in-Fold-in_part : goal.returns-in-Fold-in_part
returns-in-Fold-in_part g c = rw c.in-Fold-in_part.is c.put_table-8.ensures
