pub mod IndexScan
