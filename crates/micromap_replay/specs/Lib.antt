pub mod KeyedCalls
